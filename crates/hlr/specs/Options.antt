-- The options of the program, and what the words that it is started with make of them.
use Rattle.std.specs.Prelude.{◌≡◌, ◌≤◌, ℕ, Bool, true, false, List, [], ◌∷◌, Option, Some, codes, option_map, pos}
use Rattle.std.specs.Str.Parse.{digits_value, without_leading_plus}
use Rattle.clap.specs.Words.{App, Row, Rule, Text, first_of, new_app, new_rule, one_of, with_rule}
use Rattle.clap.specs.declared.builder.action.ArgAction.TheVariants.{SetTrue}
use Rattle.clap.specs.declared.builder.value_parser.ValueParser.TheVariants as parser
use Rattle.part_table.specs.declared.region.TheConstants.{MOST_PARTS}
use Rattle.tatp_rows.specs.declared.ranges.TheConstants.{GREATEST_WIDTH}
use Rattle.hlr_owners.specs.Store.{HasOpening}
use Rattle.hlr.specs.declared.options.Options.{Options}
use Rattle.hlr.specs.declared.options.TheConstants.{GREATEST_SNAPSHOT_AT}

-- `--parts N`: a number from 1 to 16, which is 1 where the option isn't given
abbrev pub parts_rule : Rule
parts_rule = record (new_rule (codes "parts")) {
  long = Some (codes "parts");
  value_names = 1;
  parser = Some (parser.Signed (pos 1) (pos MOST_PARTS));
  defaults = codes "1" ∷ [];
}

-- `--zone W`: a number from 1 to 524,288, which is 524,288 where the option isn't given
abbrev pub zone_rule : Rule
zone_rule = record (new_rule (codes "zone")) {
  long = Some (codes "zone");
  value_names = 1;
  parser = Some (parser.Signed (pos 1) (pos GREATEST_WIDTH));
  defaults = codes "524288" ∷ [];
}

-- `--threads`, which takes no value
abbrev pub threads_rule : Rule
threads_rule = record (new_rule (codes "threads")) {
  long = Some (codes "threads");
  action = Some SetTrue;
}

-- `--journal FILE`, which takes a path
abbrev pub journal_rule : Rule
journal_rule = record (new_rule (codes "journal")) {
  long = Some (codes "journal");
  value_names = 1;
}

-- `--snapshot-at MB`: a number from 1 to 1,048,576, which is 64 where the option isn't given
abbrev pub snapshot_rule : Rule
snapshot_rule = record (new_rule (codes "snapshot-at")) {
  long = Some (codes "snapshot-at");
  value_names = 1;
  parser = Some (parser.Signed (pos 1) (pos GREATEST_SNAPSHOT_AT));
  defaults = codes "64" ∷ [];
}

-- an app that answers `--version`
abbrev pub with_version : App → App
with_version app = record app { top = record app.top { has_version = true } }

-- the program with its options
unfoldable pub program : App
program =
    with_rule (with_rule (with_rule (with_rule (with_rule (with_version (new_app (codes "hlr"))) parts_rule) zone_rule) threads_rule) journal_rule) snapshot_rule

-- a number is the one that a text spells; a plus sign may stand before its digits
abbrev pub Spells : Option Text → ℕ → Type 0
Spells text n = (digits : Text) × (text ≡ Some digits) × (n ≡ digits_value 10 (without_leading_plus digits))

-- the text of a flag that is given, and of one that isn't
abbrev pub flag_text : Bool → Text
flag_text true = codes "true"
flag_text false = codes "false"

-- a text tells whether a flag is given
abbrev pub Tells : Option Text → Bool → Type 0
Tells text given = text ≡ Some (flag_text given)

-- the options are those that the program's words spell
abbrev pub OptionsOf : List Row → Options → Type 0
OptionsOf rows options =
    Spells (one_of (codes "parts") rows) options.parts × Spells (one_of (codes "zone") rows) options.width
    × Tells (one_of (codes "threads") rows) options.threads
    × (option_map (λ path. path.now) options.journal ≡ first_of (codes "journal") rows)
    × Spells (one_of (codes "snapshot-at") rows) options.snapshot_at

-- the options are in range: a register can be opened with them, and a journal can have so many MB
abbrev pub InRange : Options → Type 0
InRange options = HasOpening options.parts options.width × (1 ≤ options.snapshot_at) × (options.snapshot_at ≤ GREATEST_SNAPSHOT_AT)
