-- The stored rows of a part, and what it is seen as, after a call of its rows.
use Rattle.tatp_actions.proofs.Common.{◌≡◌, refl, sym, ◌∙◌, ap, subst, ℕ, Bool, List, Option, Some, None, if◌then◌else◌, option_map, is_some, key_of_pair, value_at, row_at-pairs, with_row_at-pairs, with_row-pairs, without_row-pairs, each-with_row_at, each-with_row, each-without_row, subscriber_key, access_key, facility_key, forwarding_key, row_at, with_row_at, with_row, without_row, SubscriberRow, AccessInfoRow, SpecialFacilityRow, CallForwardingRow, Refusal, Book, IsRowsOf, Heights, PartState, IsPart, changed_once, Tables, AreKeyed, IsKeyed, stored_book, values_of, once_more}
use Rattle.tatp_rows.specs.declared.refusal.Refusal.TheVariants as refusal

-- the part of these tables
abbrev pub part_of : Tables → ℕ → ℕ → ℕ → ℕ → ℕ → Heights → PartState
part_of tables asked lo hi width steps h = record {
  book = stored_book tables;
  asked = asked;
  lo = lo;
  hi = hi;
  width = width;
  steps = steps;
  heights = h;
}

-- its rules
abbrev pub Holds : Tables → ℕ → ℕ → ℕ → ℕ → ℕ → Heights → Type 0
Holds tables asked lo hi width steps h = IsPart (part_of tables asked lo hi width steps h) × AreKeyed tables

-- what is said of a part with some heights is said with its own
pub own_heights : (part rest : PartState) (h : Heights) → part ≡ record rest { heights = h }
    → part ≡ record rest { heights = part.heights }
own_heights part rest h is =
    is ∙ ap (λ (k : Heights). record rest { heights = k }) (sym (ap (λ (p : PartState). p.heights) is))

-- the rows were asked, and changed
pub changed_is : (h : Heights) {h1 : Heights} (tables tables1 : Tables) (n n1 lo hi width steps : ℕ) (book : Book)
    → stored_book tables1 ≡ book
    → n1 ≡ once_more n
    → part_of tables1 n1 lo hi width steps h1 ≡ changed_once (part_of tables n lo hi width steps h) book h1
changed_is h tables tables1 n n1 lo hi width steps book same asked = rw (same, asked) refl

pub changed_holds : {h h1 : Heights} (tables tables1 : Tables) (n n1 lo hi width steps : ℕ) (book : Book)
    → stored_book tables1 ≡ book
    → IsPart (part_of tables n lo hi width steps h) → IsRowsOf lo hi book → AreKeyed tables1
    → Holds tables1 n1 lo hi width steps h1
changed_holds tables tables1 n n1 lo hi width steps book same rules rows keyed =
    (record { range = rules.range; width = rules.width; rows = subst (λ (b : Book). IsRowsOf lo hi b) (sym same) rows }, keyed)

-- what is found among stored pairs is what is found among their rows
pub found_in : {X : Type 0} (key : X → ℕ) (pairs : List (ℕ × X)) (k k' : ℕ) (o : Option X) → IsKeyed key pairs → k ≡ k' → o ≡ value_at k pairs → o ≡ row_at key k' (values_of pairs)
found_in key pairs k k' o keyed at is = is ∙ ap (λ (j : ℕ). value_at j pairs) at ∙ sym (row_at-pairs key k' pairs keyed)

-- whether there is something is whether there is what it is mapped to
pub some_mapped : {X Y : Type 0} (f : X → Y) (o : Option X) → is_some (option_map f o) ≡ is_some o
some_mapped f None = refl
some_mapped f (Some x) = refl

pub is_there : {X : Type 0} (key : X → ℕ) (pairs : List (ℕ × X)) (k : ℕ) → IsKeyed key pairs → is_some (row_at key k (values_of pairs)) ≡ is_some (row_at key_of_pair k pairs)
is_there key pairs k keyed = ap is_some (row_at-pairs key k pairs keyed) ∙ some_mapped (λ (p : ℕ × _). p.1) (row_at key_of_pair k pairs)

-- an absent pair is an absent row
pub absent_row : {X : Type 0} (key : X → ℕ) (pairs : List (ℕ × X)) (k k' : ℕ) → IsKeyed key pairs → k ≡ k' → row_at key_of_pair k pairs ≡ None → row_at key k' (values_of pairs) ≡ None
absent_row {X} key pairs k k' keyed at absent =
    sym (found_in key pairs k k' None keyed at (sym (ap (option_map (λ (p : ℕ × X). p.1)) absent)))

-- an insertion of a pair that was refused
pub refused_pair : {X : Type 0} (key : X → ℕ) (pairs : List (ℕ × X)) (k k' : ℕ) (why : Refusal) → IsKeyed key pairs → k ≡ k'
    → why ≡ (if is_some (row_at key_of_pair k pairs) then refusal.Exists else refusal.Memory)
    → why ≡ (if is_some (row_at key k' (values_of pairs)) then refusal.Exists else refusal.Memory)
refused_pair {X} key pairs k k' why keyed at is =
    is ∙ ap (λ (test : Bool). if test then refusal.Exists else refusal.Memory) (sym (is_there key pairs k keyed) ∙ ap (λ (j : ℕ). is_some (row_at key j (values_of pairs))) at)

-- stored pairs after a change: the book, and that each row stands at its key
pub book_put_subscriber : (tables : Tables) (k : ℕ) (row : SubscriberRow) → AreKeyed tables
    → stored_book (record tables { subscribers = with_row_at key_of_pair k (k, row) tables.subscribers }) ≡ record (stored_book tables) { subscribers = with_row_at subscriber_key k row (stored_book tables).subscribers }
book_put_subscriber tables k row keyed = ap (λ (rows : List SubscriberRow). record (stored_book tables) { subscribers = rows }) (with_row_at-pairs subscriber_key k row tables.subscribers keyed.subscribers)

pub keyed_put_subscriber : (tables : Tables) (k : ℕ) (row : SubscriberRow) → AreKeyed tables → k ≡ subscriber_key row → AreKeyed (record tables { subscribers = with_row_at key_of_pair k (k, row) tables.subscribers })
keyed_put_subscriber tables k row keyed at = record {
  subscribers = each-with_row_at key_of_pair (λ (p : ℕ × SubscriberRow). p.0 ≡ subscriber_key p.1) k (k, row) tables.subscribers at keyed.subscribers;
  access = keyed.access;
  facilities = keyed.facilities;
  forwardings = keyed.forwardings;
}

pub book_put_facility : (tables : Tables) (k : ℕ) (row : SpecialFacilityRow) → AreKeyed tables
    → stored_book (record tables { facilities = with_row_at key_of_pair k (k, row) tables.facilities }) ≡ record (stored_book tables) { facilities = with_row_at facility_key k row (stored_book tables).facilities }
book_put_facility tables k row keyed = ap (λ (rows : List SpecialFacilityRow). record (stored_book tables) { facilities = rows }) (with_row_at-pairs facility_key k row tables.facilities keyed.facilities)

pub keyed_put_facility : (tables : Tables) (k : ℕ) (row : SpecialFacilityRow) → AreKeyed tables → k ≡ facility_key row → AreKeyed (record tables { facilities = with_row_at key_of_pair k (k, row) tables.facilities })
keyed_put_facility tables k row keyed at = record {
  subscribers = keyed.subscribers;
  access = keyed.access;
  facilities = each-with_row_at key_of_pair (λ (p : ℕ × SpecialFacilityRow). p.0 ≡ facility_key p.1) k (k, row) tables.facilities at keyed.facilities;
  forwardings = keyed.forwardings;
}

pub book_more_subscribers : (tables : Tables) (k : ℕ) (row : SubscriberRow) → AreKeyed tables → k ≡ subscriber_key row
    → stored_book (record tables { subscribers = with_row key_of_pair (k, row) tables.subscribers }) ≡ record (stored_book tables) { subscribers = with_row subscriber_key row (stored_book tables).subscribers }
book_more_subscribers tables k row keyed at = ap (λ (rows : List SubscriberRow). record (stored_book tables) { subscribers = rows }) (with_row-pairs subscriber_key k row tables.subscribers at keyed.subscribers)

pub keyed_more_subscribers : (tables : Tables) (k : ℕ) (row : SubscriberRow) → AreKeyed tables → k ≡ subscriber_key row → AreKeyed (record tables { subscribers = with_row key_of_pair (k, row) tables.subscribers })
keyed_more_subscribers tables k row keyed at = record {
  subscribers = each-with_row key_of_pair (λ (p : ℕ × SubscriberRow). p.0 ≡ subscriber_key p.1) (k, row) tables.subscribers at keyed.subscribers;
  access = keyed.access;
  facilities = keyed.facilities;
  forwardings = keyed.forwardings;
}

pub book_more_access : (tables : Tables) (k : ℕ) (row : AccessInfoRow) → AreKeyed tables → k ≡ access_key row
    → stored_book (record tables { access = with_row key_of_pair (k, row) tables.access }) ≡ record (stored_book tables) { access = with_row access_key row (stored_book tables).access }
book_more_access tables k row keyed at = ap (λ (rows : List AccessInfoRow). record (stored_book tables) { access = rows }) (with_row-pairs access_key k row tables.access at keyed.access)

pub keyed_more_access : (tables : Tables) (k : ℕ) (row : AccessInfoRow) → AreKeyed tables → k ≡ access_key row → AreKeyed (record tables { access = with_row key_of_pair (k, row) tables.access })
keyed_more_access tables k row keyed at = record {
  subscribers = keyed.subscribers;
  access = each-with_row key_of_pair (λ (p : ℕ × AccessInfoRow). p.0 ≡ access_key p.1) (k, row) tables.access at keyed.access;
  facilities = keyed.facilities;
  forwardings = keyed.forwardings;
}

pub book_more_facilities : (tables : Tables) (k : ℕ) (row : SpecialFacilityRow) → AreKeyed tables → k ≡ facility_key row
    → stored_book (record tables { facilities = with_row key_of_pair (k, row) tables.facilities }) ≡ record (stored_book tables) { facilities = with_row facility_key row (stored_book tables).facilities }
book_more_facilities tables k row keyed at = ap (λ (rows : List SpecialFacilityRow). record (stored_book tables) { facilities = rows }) (with_row-pairs facility_key k row tables.facilities at keyed.facilities)

pub keyed_more_facilities : (tables : Tables) (k : ℕ) (row : SpecialFacilityRow) → AreKeyed tables → k ≡ facility_key row → AreKeyed (record tables { facilities = with_row key_of_pair (k, row) tables.facilities })
keyed_more_facilities tables k row keyed at = record {
  subscribers = keyed.subscribers;
  access = keyed.access;
  facilities = each-with_row key_of_pair (λ (p : ℕ × SpecialFacilityRow). p.0 ≡ facility_key p.1) (k, row) tables.facilities at keyed.facilities;
  forwardings = keyed.forwardings;
}

pub book_more_forwardings : (tables : Tables) (k : ℕ) (row : CallForwardingRow) → AreKeyed tables → k ≡ forwarding_key row
    → stored_book (record tables { forwardings = with_row key_of_pair (k, row) tables.forwardings }) ≡ record (stored_book tables) { forwardings = with_row forwarding_key row (stored_book tables).forwardings }
book_more_forwardings tables k row keyed at = ap (λ (rows : List CallForwardingRow). record (stored_book tables) { forwardings = rows }) (with_row-pairs forwarding_key k row tables.forwardings at keyed.forwardings)

pub keyed_more_forwardings : (tables : Tables) (k : ℕ) (row : CallForwardingRow) → AreKeyed tables → k ≡ forwarding_key row → AreKeyed (record tables { forwardings = with_row key_of_pair (k, row) tables.forwardings })
keyed_more_forwardings tables k row keyed at = record {
  subscribers = keyed.subscribers;
  access = keyed.access;
  facilities = keyed.facilities;
  forwardings = each-with_row key_of_pair (λ (p : ℕ × CallForwardingRow). p.0 ≡ forwarding_key p.1) (k, row) tables.forwardings at keyed.forwardings;
}

pub book_without_forwarding : (tables : Tables) (k k' : ℕ) → AreKeyed tables → k ≡ k'
    → stored_book (record tables { forwardings = without_row key_of_pair k tables.forwardings }) ≡ record (stored_book tables) { forwardings = without_row forwarding_key k' (stored_book tables).forwardings }
book_without_forwarding tables k k' keyed at =
    ap (λ (rows : List CallForwardingRow). record (stored_book tables) { forwardings = rows })
    (without_row-pairs forwarding_key k tables.forwardings keyed.forwardings ∙ ap (λ (j : ℕ). without_row forwarding_key j (stored_book tables).forwardings) at)

pub keyed_without_forwarding : (tables : Tables) (k : ℕ) → AreKeyed tables → AreKeyed (record tables { forwardings = without_row key_of_pair k tables.forwardings })
keyed_without_forwarding tables k keyed = record {
  subscribers = keyed.subscribers;
  access = keyed.access;
  facilities = keyed.facilities;
  forwardings = each-without_row key_of_pair (λ (p : ℕ × CallForwardingRow). p.0 ≡ forwarding_key p.1) k tables.forwardings keyed.forwardings;
}
