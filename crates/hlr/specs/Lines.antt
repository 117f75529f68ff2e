-- The lines of the answers. A line is ASCII, and ends with a line feed.
use Rattle.std.specs.Prelude.{ℕ, ◌/◌, ◌%◌, ◌++◌, List, [], ◌∷◌, map, codes, decimal, Result, Ok, Err, ℤ}
use Rattle.std.specs.List.{flat_map}
use Rattle.std.specs.Char.{digit_char}
use Rattle.std.specs.Fmt.{signed_decimal}
use Rattle.tatp_rows.specs.Number.{number_text}
use Rattle.tatp_rows.specs.Refusal.{code_of, name_of}
use Rattle.tatp_rows.specs.Rows.{SubscriberRow}
use Rattle.tatp_rows.specs.declared.refusal.Refusal.{Refusal}
use Rattle.tatp_actions.specs.declared.action.RowReply.{RowReply}
use Rattle.tatp_actions.specs.declared.action.RowReply.TheVariants as row_reply
use Rattle.part_table.specs.declared.region.Place.{Place}
use Rattle.part_table.specs.declared.region.Place.TheVariants.{Part, Piece}
use Rattle.part_table.specs.declared.region.Region.{Region}
use Rattle.hlr_core.specs.declared.event.Reply.{Reply}
use Rattle.hlr_core.specs.declared.event.Reply.TheVariants as reply

-- the hexadecimal digit of a number's lowest four bits, in lower case
abbrev pub hex_digit : ℕ → ℕ
hex_digit n = digit_char (n % 16)

-- one hexadecimal digit for each number
abbrev pub hexes_text : List ℕ → List ℕ
hexes_text ns = map hex_digit ns

-- two hexadecimal digits for each byte
abbrev pub bytes_text : List ℕ → List ℕ
bytes_text ns = flat_map (λ n. hex_digit (n / 16) ∷ hex_digit n ∷ []) ns

-- the line of what was done
abbrev pub ok_line : List ℕ
ok_line = codes "ok\n"

-- the line of a refusal: its number and its name
unfoldable pub refused_line : Refusal → List ℕ
refused_line why = codes "refused," ++ decimal (code_of why) ++ codes "," ++ name_of why ++ codes "\n"

-- the line of a Subscriber row
unfoldable pub subscriber_line : SubscriberRow → List ℕ
subscriber_line row =
    codes "subscriber," ++ decimal row.s_id ++ codes "," ++ number_text row.sub_nbr ++ codes ","
    ++ hexes_text row.bits ++ codes "," ++ hexes_text row.hexes ++ codes "," ++ bytes_text row.bytes ++ codes ","
    ++ decimal row.msc_location ++ codes "," ++ decimal row.vlr_location ++ codes "\n"

-- numbers, each after a comma
abbrev pub numbers_text : List ℕ → List ℕ
numbers_text ns = flat_map (λ n. codes "," ++ number_text n) ns

-- the line of the numbers that were found
unfoldable pub numbers_line : List ℕ → List ℕ
numbers_line ns = codes "numbers" ++ numbers_text ns ++ codes "\n"

-- the line of an access: data1 to data4
unfoldable pub access_line : ℕ → ℕ → List ℕ → List ℕ → List ℕ
access_line data1 data2 data3 data4 =
    codes "access," ++ decimal data1 ++ codes "," ++ decimal data2 ++ codes "," ++ data3 ++ codes "," ++ data4 ++ codes "\n"

-- the line of a word and a count
unfoldable pub total_line : List ℕ → ℕ → List ℕ
total_line word n = word ++ decimal n ++ codes "\n"

-- the line of a cell: its published and its unposted count
unfoldable pub cell_line : ℕ → ℤ → ℤ → List ℕ
cell_line c published unposted =
    codes "cell," ++ decimal c ++ codes "," ++ signed_decimal published ++ codes "," ++ signed_decimal unposted ++ codes "\n"

-- the line of a cell counted over the rows
unfoldable pub counted_line : ℕ → ℕ → List ℕ
counted_line c n = codes "cell," ++ decimal c ++ codes "," ++ decimal n ++ codes "\n"

-- the line of a number and the subscriber who has it
unfoldable pub number_line : ℕ × ℕ → List ℕ
number_line pair = codes "number," ++ number_text pair.0 ++ codes "," ++ decimal pair.1 ++ codes "\n"

-- a part or a loose piece, by its number
abbrev pub place_text : Place → List ℕ
place_text (Part p) = codes "part," ++ decimal p
place_text (Piece n) = codes "piece," ++ decimal n

-- the line of a region: who has it, and where it begins and ends
unfoldable pub region_line : Region → List ℕ
region_line region = place_text region.place ++ codes "," ++ decimal region.lo ++ codes "," ++ decimal region.hi ++ codes "\n"

-- the line of a piece that a part took
unfoldable pub taken_line : ℕ → ℕ → List ℕ
taken_line n q = codes "taken," ++ decimal n ++ codes "," ++ decimal q ++ codes "\n"

-- the line of a part that came, or has the rows of one that went: a word, its number, and where it begins and ends
unfoldable pub part_change_line : List ℕ → ℕ → ℕ → ℕ → List ℕ
part_change_line word part lo hi =
    word ++ decimal part ++ codes "," ++ decimal lo ++ codes "," ++ decimal hi ++ codes "\n"

-- numbers in decimal, each after a comma
abbrev pub decimals_text : List ℕ → List ℕ
decimals_text ns = flat_map (λ n. codes "," ++ decimal n) ns

-- the line of bounds between parts
unfoldable pub bounds_line : List ℕ → List ℕ
bounds_line bounds = codes "bounds" ++ decimals_text bounds ++ codes "\n"

-- the line of a recut: how many bounds were moved, or its refusal
abbrev pub recut_line : Result ℕ Refusal → List ℕ
recut_line (Ok moves) = total_line (codes "recut,") moves
recut_line (Err why) = refused_line why

-- the line of the rows' answer
abbrev pub row_reply_line : RowReply → List ℕ
row_reply_line row_reply.Done = ok_line
row_reply_line (row_reply.Row row) = subscriber_line row
row_reply_line (row_reply.Numbers numbers) = numbers_line numbers.items
row_reply_line (row_reply.AccessRow data1 data2 data3 data4) = access_line data1 data2 data3 data4
row_reply_line (row_reply.Refused why) = refused_line why

-- the line of a reply
abbrev pub reply_line : Reply → List ℕ
reply_line (reply.Rows answer) = row_reply_line answer
reply_line (reply.Posted n) = total_line (codes "posted,") n
reply_line (reply.Given n lo hi) = region_line (record { lo = lo; hi = hi; place = Piece n })
reply_line (reply.Taken n q) = taken_line n q
reply_line (reply.Divided new lo hi) = part_change_line (codes "divided,") new lo hi
reply_line (reply.Dissolved front lo hi) = part_change_line (codes "dissolved,") front lo hi
reply_line (reply.Refused why) = refused_line why
