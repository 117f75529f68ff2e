-- Which command a record is. Syntax comes first, then Field.
use Rattle.std.specs.Prelude.{ℕ, ◌+◌, ◌==◌, nat_lt, List, [], length, drop, codes, if◌then◌else◌, Option, Some, None, Result, Ok, Err}
use Rattle.std.specs.Str.{bytes_eq}
use Rattle.std.specs.Option.{unwrap_or}
use Rattle.arrayvec.specs.ArrayVec.{ArrayVec}
use Rattle.csv.specs.Records.{field_at}
use Rattle.tatp_rows.specs.Number.{number_in}
use Rattle.tatp_rows.specs.Letters.{letters_in}
use Rattle.tatp_rows.specs.Rows.{access_of, facility_of, subscriber_of}
use Rattle.tatp_rows.specs.declared.refusal.Refusal.{Refusal}
use Rattle.tatp_rows.specs.declared.refusal.Refusal.TheVariants.{Field, Syntax}
use Rattle.part_table.specs.declared.region.Side.{Side}
use Rattle.part_table.specs.declared.region.Side.TheVariants.{Low, High}
use Rattle.hlr_core.specs.declared.event.Event.TheVariants as event
use Rattle.hlr.specs.Fields.{◌>>=◌, number_field, number_fields, byte_field, digits_field, bytes_field}
use Rattle.hlr.specs.Command.{Command}
use Rattle.hlr.specs.Command.{Command as command}
use Rattle.hlr.specs.declared.records.TheConstants.{MOST_BOUNDS}
use Rattle.hlr.specs.declared.records.Word.{Word}
use Rattle.hlr.specs.declared.records.Word.TheVariants as word

-- the field at a place, which is empty where there is none
abbrev pub field : List (List ℕ) → ℕ → List ℕ
field fields i = unwrap_or (field_at fields i) []

-- the word that a text is
unfoldable pub word_named : List ℕ → Option Word
word_named text =
    if bytes_eq text (codes "gsd") then Some word.Gsd
    else if bytes_eq text (codes "gnd") then Some word.Gnd
    else if bytes_eq text (codes "gad") then Some word.Gad
    else if bytes_eq text (codes "usd") then Some word.Usd
    else if bytes_eq text (codes "ul") then Some word.Ul
    else if bytes_eq text (codes "icf") then Some word.Icf
    else if bytes_eq text (codes "dcf") then Some word.Dcf
    else if bytes_eq text (codes "sub") then Some word.Sub
    else if bytes_eq text (codes "acc") then Some word.Acc
    else if bytes_eq text (codes "fac") then Some word.Fac
    else if bytes_eq text (codes "active") then Some word.Active
    else if bytes_eq text (codes "number") then Some word.Number
    else if bytes_eq text (codes "post") then Some word.Post
    else if bytes_eq text (codes "give") then Some word.Give
    else if bytes_eq text (codes "take") then Some word.Take
    else if bytes_eq text (codes "divide") then Some word.Divide
    else if bytes_eq text (codes "dissolve") then Some word.Dissolve
    else if bytes_eq text (codes "views") then Some word.Views
    else if bytes_eq text (codes "scan") then Some word.Scan
    else if bytes_eq text (codes "index") then Some word.Index
    else if bytes_eq text (codes "regions") then Some word.Regions
    else if bytes_eq text (codes "propose") then Some word.Propose
    else if bytes_eq text (codes "recut") then Some word.Recut
    else None

-- gsd,S
abbrev pub gsd_of : List (List ℕ) → Result Command Refusal
gsd_of fields = do
  s_id ← number_field (field fields 1)
  Ok (command.Ask (event.SubscriberData s_id))

-- gnd,S,sf_type,start_time,end_time
abbrev pub gnd_of : List (List ℕ) → Result Command Refusal
gnd_of fields = do
  s_id ← number_field (field fields 1)
  sf_type ← number_field (field fields 2)
  start_time ← number_field (field fields 3)
  end_time ← number_field (field fields 4)
  Ok (command.Ask (event.NewDestination s_id sf_type start_time end_time))

-- gad,S,ai_type
abbrev pub gad_of : List (List ℕ) → Result Command Refusal
gad_of fields = do
  s_id ← number_field (field fields 1)
  ai_type ← number_field (field fields 2)
  Ok (command.Ask (event.AccessData s_id ai_type))

-- usd,S,sf_type,bit_1,data_a
abbrev pub usd_of : List (List ℕ) → Result Command Refusal
usd_of fields = do
  s_id ← number_field (field fields 1)
  sf_type ← number_field (field fields 2)
  bit_1 ← number_field (field fields 3)
  data_a ← number_field (field fields 4)
  Ok (command.Ask (event.UpdateSubscriber s_id sf_type bit_1 data_a))

-- ul,N,vlr
abbrev pub ul_of : List (List ℕ) → Result Command Refusal
ul_of fields = do
  sub_nbr ← number_in (field fields 1)
  vlr_location ← number_field (field fields 2)
  Ok (command.Ask (event.UpdateLocation sub_nbr vlr_location))

-- icf,N,sf_type,start_time,end_time,numberx
abbrev pub icf_of : List (List ℕ) → Result Command Refusal
icf_of fields = do
  sub_nbr ← number_in (field fields 1)
  sf_type ← number_field (field fields 2)
  start_time ← number_field (field fields 3)
  end_time ← number_field (field fields 4)
  numberx ← number_in (field fields 5)
  Ok (command.Ask (event.InsertForwarding sub_nbr sf_type start_time end_time numberx))

-- dcf,N,sf_type,start_time
abbrev pub dcf_of : List (List ℕ) → Result Command Refusal
dcf_of fields = do
  sub_nbr ← number_in (field fields 1)
  sf_type ← number_field (field fields 2)
  start_time ← number_field (field fields 3)
  Ok (command.Ask (event.DeleteForwarding sub_nbr sf_type start_time))

-- sub,S,N,BITS,HEXES,BYTES,msc,vlr
abbrev pub sub_of : List (List ℕ) → Result Command Refusal
sub_of fields = do
  s_id ← number_field (field fields 1)
  sub_nbr ← number_in (field fields 2)
  bits ← digits_field 2 10 (field fields 3)
  hexes ← digits_field 16 10 (field fields 4)
  bytes ← bytes_field (field fields 5)
  msc_location ← number_field (field fields 6)
  vlr_location ← number_field (field fields 7)
  row ← subscriber_of (record {
    s_id = s_id;
    sub_nbr = sub_nbr;
    bits = bits;
    hexes = hexes;
    bytes = bytes;
    msc_location = msc_location;
    vlr_location = vlr_location;
  })
  Ok (command.Ask (event.AddSubscriber row))

-- acc,S,ai_type,data1,data2,data3,data4
abbrev pub acc_of : List (List ℕ) → Result Command Refusal
acc_of fields = do
  s_id ← number_field (field fields 1)
  ai_type ← number_field (field fields 2)
  data1 ← byte_field (field fields 3)
  data2 ← byte_field (field fields 4)
  data3 ← letters_in 3 (field fields 5)
  data4 ← letters_in 5 (field fields 6)
  row ← access_of (record { s_id = s_id; ai_type = ai_type; data1 = data1; data2 = data2; data3 = data3; data4 = data4 })
  Ok (command.Ask (event.AddAccess row))

-- fac,S,sf_type,is_active,error_cntrl,data_a,data_b
abbrev pub fac_of : List (List ℕ) → Result Command Refusal
fac_of fields = do
  s_id ← number_field (field fields 1)
  sf_type ← number_field (field fields 2)
  is_active ← number_field (field fields 3)
  error_cntrl ← byte_field (field fields 4)
  data_a ← byte_field (field fields 5)
  data_b ← letters_in 5 (field fields 6)
  row ← facility_of (record { s_id = s_id; sf_type = sf_type; is_active = is_active; error_cntrl = error_cntrl; data_a = data_a; data_b = data_b })
  Ok (command.Ask (event.AddFacility row))

-- active,S,sf_type,is_active
abbrev pub active_of : List (List ℕ) → Result Command Refusal
active_of fields = do
  s_id ← number_field (field fields 1)
  sf_type ← number_field (field fields 2)
  is_active ← number_field (field fields 3)
  Ok (command.Ask (event.SetActive s_id sf_type is_active))

-- number,S,N
abbrev pub renaming_of : List (List ℕ) → Result Command Refusal
renaming_of fields = do
  s_id ← number_field (field fields 1)
  sub_nbr ← number_in (field fields 2)
  Ok (command.Ask (event.SetNumber s_id sub_nbr))

-- post,part,limit
abbrev pub post_of : List (List ℕ) → Result Command Refusal
post_of fields = do
  part ← number_field (field fields 1)
  limit ← number_field (field fields 2)
  Ok (command.Ask (event.Post part limit))

-- the side of a part that a text names; any other text is Syntax
unfoldable pub side_named : List ℕ → Result Side Refusal
side_named text =
    if bytes_eq text (codes "low") then Ok Low
    else if bytes_eq text (codes "high") then Ok High
    else Err Syntax

-- give,part,side,at
abbrev pub give_of : List (List ℕ) → Result Command Refusal
give_of fields = do
  side ← side_named (field fields 2)
  part ← number_field (field fields 1)
  at ← number_field (field fields 3)
  Ok (command.Ask (event.Give part side at))

-- take,piece,part
abbrev pub take_of : List (List ℕ) → Result Command Refusal
take_of fields = do
  piece ← number_field (field fields 1)
  part ← number_field (field fields 2)
  Ok (command.Ask (event.Take piece part))

-- divide,part,at
abbrev pub divide_of : List (List ℕ) → Result Command Refusal
divide_of fields = do
  part ← number_field (field fields 1)
  at ← number_field (field fields 2)
  Ok (command.Ask (event.Divide part at))

-- dissolve,part
abbrev pub dissolve_of : List (List ℕ) → Result Command Refusal
dissolve_of fields = do
  part ← number_field (field fields 1)
  Ok (command.Ask (event.Dissolve part))

-- the bounds of a recut; no register has more than 15, so more are Field
unfoldable pub bound_fields : List (List ℕ) → Result (List ℕ) Refusal
bound_fields texts = if nat_lt MOST_BOUNDS (length texts) then Err Field else number_fields texts

-- the bounds of recut,b1,.. with any number of them
abbrev pub bounds_of : List (List ℕ) → Result (ArrayVec ℕ) Refusal
bounds_of fields = do
  bounds ← bound_fields (drop 1 fields)
  Ok (record { items = bounds })

-- what the fields after the word give, where there are as many as that
abbrev pub with_fields : ℕ → List (List ℕ) → Result Command Refusal → Result Command Refusal
with_fields n fields read = if length fields == n + 1 then read else Err Syntax

-- the command of a word and its fields
abbrev pub command_named : Option Word → List (List ℕ) → Result Command Refusal
command_named (Some word.Gsd) fields = with_fields 1 fields (gsd_of fields)
command_named (Some word.Gnd) fields = with_fields 4 fields (gnd_of fields)
command_named (Some word.Gad) fields = with_fields 2 fields (gad_of fields)
command_named (Some word.Usd) fields = with_fields 4 fields (usd_of fields)
command_named (Some word.Ul) fields = with_fields 2 fields (ul_of fields)
command_named (Some word.Icf) fields = with_fields 5 fields (icf_of fields)
command_named (Some word.Dcf) fields = with_fields 3 fields (dcf_of fields)
command_named (Some word.Sub) fields = with_fields 7 fields (sub_of fields)
command_named (Some word.Acc) fields = with_fields 6 fields (acc_of fields)
command_named (Some word.Fac) fields = with_fields 6 fields (fac_of fields)
command_named (Some word.Active) fields = with_fields 3 fields (active_of fields)
command_named (Some word.Number) fields = with_fields 2 fields (renaming_of fields)
command_named (Some word.Post) fields = with_fields 2 fields (post_of fields)
command_named (Some word.Views) fields = with_fields 0 fields (Ok command.Views)
command_named (Some word.Scan) fields = with_fields 0 fields (Ok command.Scan)
command_named (Some word.Index) fields = with_fields 0 fields (Ok command.Index)
command_named (Some word.Give) fields = with_fields 3 fields (give_of fields)
command_named (Some word.Take) fields = with_fields 2 fields (take_of fields)
command_named (Some word.Divide) fields = with_fields 2 fields (divide_of fields)
command_named (Some word.Dissolve) fields = with_fields 1 fields (dissolve_of fields)
command_named (Some word.Regions) fields = with_fields 0 fields (Ok command.Regions)
command_named (Some word.Propose) fields = with_fields 0 fields (Ok command.Propose)
command_named (Some word.Recut) fields = Ok command.Recut
command_named None fields = Err Syntax

-- the command of a record
unfoldable pub command_of : List (List ℕ) → Result Command Refusal
command_of fields = command_named (word_named (field fields 0)) fields
