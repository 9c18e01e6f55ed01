-- What the words of a command line say, where `clap` has matched them. LOGIC 13.3.
use Rattle.std.specs.Prelude.{◌≡◌, ◌<◌, ◌^◌, ◌↔◌, if◌then◌else◌, ℕ, Bool, true, false, IsTrue, ⊤, List, [], codes, map}
use Rattle.std.specs.Prelude.{Option, Some, None, SomeIff, option_map, unwrap_or, String, string_bytes}
use Rattle.std.specs.Global.{Global}
use Rattle.std.specs.Option.{option_map_or}
use Rattle.std.specs.Str.{bytes_eq}
use Rattle.std.specs.Str.Parse.{IsNumeral, digits_value, without_leading_plus}
use Rattle.clap.specs.Matches.{first_value, found_of, matched_of, one_text, raw_values}
use Rattle.clap.specs.Simple.{subcommand_rows_of}
use Rattle.clap.specs.Walk.{rows_of}
use Rattle.clap.specs.declared.parser.matches.ArgMatches.{ArgMatches}
use Rattle.iam_options.specs.declared.changes.FailOn.{FailOn}
use Rattle.iam_options.specs.declared.changes.FailOn.TheVariants.{Gained, Lost, Any}
use Rattle.iam_options.specs.declared.command.Asked.{Asked}
use Rattle.iam_options.specs.declared.options.Task.{Task}
use Rattle.iam_options.specs.declared.options.Task.TheVariants.{Check, Decide, Matrix, First}

-- P holds of the matches behind the command that was read, which are known by their rows
abbrev pub OfCommand : ArgMatches → (ArgMatches → Type 0) → Type 0
OfCommand matches P =
    (command : ArgMatches) × (option_map (λ p. p.1) (subcommand_rows_of matches) ≡ Some (rows_of (found_of command)))
    × P command

-- the number that a text writes, with a plus before it or without
abbrev pub number_of : List ℕ → ℕ
number_of text = digits_value 10 (without_leading_plus text)

-- the text writes a number of this many bits
abbrev pub WritesNumber : ℕ → List ℕ → Type 0
WritesNumber bits text = IsNumeral 10 (without_leading_plus text) × (number_of text < 2 ^ bits)

-- the number is the one of this many bits that the text writes, and none where there is no text or it writes none
abbrev pub IsNumberIn : ℕ → Option (List ℕ) → Option ℕ → Type 0
IsNumberIn bits None number = number ≡ None
IsNumberIn bits (Some text) number = SomeIff number (WritesNumber bits text) (number_of text)

-- the number is the one of this many bits that stands under this name, and none where none does
abbrev pub IsNumberAt : ArgMatches → List ℕ → ℕ → Option ℕ → Type 0
IsNumberAt matches name bits number = IsNumberIn bits (one_text (found_of matches) name) number

-- the name of the command
abbrev pub command_name : Task → List ℕ
command_name Check = codes "check"
command_name (Decide p a r) = codes "decide"
command_name Matrix = codes "matrix"
command_name First = codes "first"

-- the task is to decide the request of these three numbers
abbrev pub IsDecide : ArgMatches → Task → Type 0
IsDecide matches Check = ⊥
IsDecide matches (Decide p a r) =
    IsNumberAt matches (codes "P") 64 (Some p) × IsNumberAt matches (codes "A") 64 (Some a)
    × IsNumberAt matches (codes "R") 64 (Some r)
IsDecide matches Matrix = ⊥
IsDecide matches First = ⊥

-- where the task is to decide, its numbers stand behind the command that was read
abbrev pub IfDecide : ArgMatches → Task → Type 0
IfDecide matches Check = ⊤
IfDecide matches (Decide p a r) = OfCommand matches (λ command. IsDecide command (Decide p a r))
IfDecide matches Matrix = ⊤
IfDecide matches First = ⊤

-- the flag is set where `true` stands under this name, and not where `false` or nothing does
pub record IsFlag (matches : ArgMatches) (name : List ℕ) (flag : Bool) : Type 0 where
  pub absent : one_text (found_of matches) name ≡ None → flag ≡ false
  pub on : one_text (found_of matches) name ≡ Some (codes "true") → flag ≡ true
  pub off : one_text (found_of matches) name ≡ Some (codes "false") → flag ≡ false

-- workers, tile, format and brief are what stands under their names; where no number does, there are 4 workers
pub record HasRun (matches : ArgMatches) (workers : ℕ) (tile : Option ℕ) (json brief : Bool) : Type 0 where
  pub has_workers : (number : Option ℕ) × IsNumberAt matches (codes "workers") 32 number
      × (workers ≡ unwrap_or number 4)
  pub has_tile : IsNumberAt matches (codes "tile") 64 tile
  pub is_json : IsTrue json ↔ (first_value (found_of matches) (codes "format") ≡ Some (codes "json"))
  pub is_brief : IsFlag matches (codes "brief") brief

-- the texts that stand under this name, of all its uses
abbrev pub texts_at : ArgMatches → List ℕ → List (List ℕ)
texts_at matches name = option_map_or raw_values (matched_of (found_of matches) name) []

-- the file that a word names, where there is one and it does not mean standard input
abbrev pub file_named : Option (List ℕ) → Option (List ℕ)
file_named None = None
file_named (Some word) = if bytes_eq word (codes "-") then None else Some word

-- the file is the one that stands under this name
abbrev pub IsFileAt : ArgMatches → List ℕ → Option (String Global) → Type 0
IsFileAt matches name file = option_map string_bytes file ≡ file_named (first_value (found_of matches) name)

-- neither name has a file: both inputs would be standard input
abbrev pub NamesNeither : ArgMatches → List ℕ → List ℕ → Type 0
NamesNeither matches one other =
    (file_named (first_value (found_of matches) one) ≡ None) × (file_named (first_value (found_of matches) other) ≡ None)

-- what is asked for is what stands under each name
pub record HasAsked (matches : ArgMatches) (asked : Asked) : Type 0 where
  pub principals : map string_bytes asked.principals.items ≡ texts_at matches (codes "principal")
  pub actions : map string_bytes asked.actions.items ≡ texts_at matches (codes "action")
  pub resources : map string_bytes asked.resources.items ≡ texts_at matches (codes "resource")
  pub decisions : map string_bytes asked.decisions.items ≡ texts_at matches (codes "decision")

-- the words of rows that end a run with a status of its own
abbrev pub fail_on_word : FailOn → List ℕ
fail_on_word Gained = codes "gained"
fail_on_word Lost = codes "lost"
fail_on_word Any = codes "any"

-- the rows are those that are said, where something is said
pub record IsFailOn (matches : ArgMatches) (fail_on : Option FailOn) : Type 0 where
  pub none : first_value (found_of matches) (codes "fail-on") ≡ None → fail_on ≡ None
  pub said : (said : FailOn) → first_value (found_of matches) (codes "fail-on") ≡ Some (fail_on_word said) → fail_on ≡ Some said
