use Rattle.tatp_actions.proofs.Common.{◌≡◌, refl, arith, Option, Some, None, false, IsSome, is_some, row_at-with_row_same, facility_key, SpecialFacilityRow, Book, IsRowsOf, facility_at, more_facilities, zero_heights, Tables, AreKeyed, stored_book}
use Rattle.tatp_actions.proofs.KeyedLemmas.{more_facilities_added, more_facilities_holds}
use Rattle.tatp_actions.proofs.StoredLemmas.{Holds}
use Rattle.tatp_actions.proofs.tests.makers.put_facility.Goals as goal

-- the rows keep the rules of a part
held : (tables : Tables) → IsRowsOf 1 10 (stored_book tables) → AreKeyed tables → Holds tables 0 1 10 1 0 zero_heights
held tables rows keys = (record { range = (omega arith, omega arith, omega arith); width = (omega arith, omega arith); rows = rows }, keys)

-- the row that was added is found
none : (o : Option SpecialFacilityRow) → is_some o ≡ false → o ≡ None
none None e = refl
none (Some row) e = absurd cc

found : (book book1 : Book) (row : SpecialFacilityRow) → is_some (facility_at book row.s_id row.sf_type) ≡ false → book1 ≡ more_facilities book row → IsSome (facility_at book1 row.s_id row.sf_type)
found book book1 row absent is = rw (is, row_at-with_row_same facility_key (facility_key row) row book.facilities refl (none (facility_at book row.s_id row.sf_type) absent)) refl

pub returns-clause-rows : goal.returns-clause-rows
returns-clause-rows g c =
    (more_facilities_holds _ _ 0 0 1 10 1 0 _ c.args.row refl (held _ c.requires.rows c.requires.keys) c.in_default.ensures.table c.in_default.ensures.others {h1 = zero_heights} (rw c.requires.subscriber c.requires.there) c.s_id-s_id.ensures.in_range).0.rows

pub returns-clause-keys : goal.returns-clause-keys
returns-clause-keys g c =
    (more_facilities_holds _ _ 0 0 1 10 1 0 _ c.args.row refl (held _ c.requires.rows c.requires.keys) c.in_default.ensures.table c.in_default.ensures.others {h1 = zero_heights} (rw c.requires.subscriber c.requires.there) c.s_id-s_id.ensures.in_range).1

pub returns-clause-there : goal.returns-clause-there
returns-clause-there g c =
    let added = more_facilities_added _ _ 0 0 1 10 1 0 _ c.args.row refl (held _ c.requires.rows c.requires.keys) c.in_default.ensures.table c.in_default.ensures.others in
    rw (c.requires.subscriber, c.requires.kind) at (found _ _ c.args.row added.0 added.1)
