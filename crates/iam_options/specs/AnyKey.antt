-- What the command lines with `--any-key` say, where `clap` has matched their words. LOGIC 13.3.
use Rattle.std.specs.Prelude.{◌≡◌, ◌||◌, ℕ, All, Bool, true, false, List, codes}
use Rattle.std.specs.Str.{bytes_eq}
use Rattle.clap.specs.declared.parser.matches.ArgMatches.{ArgMatches}
use Rattle.iam_options.specs.Words.{IsFlag, texts_at}
use Rattle.iam_options.specs.declared.command.Command.{Command}
use Rattle.iam_options.specs.declared.command.Command.TheVariants.{World, AnyKey, Changes, EveryChanges, AnyKeyChanges, Ask, Every}
use Rattle.iam_options.specs.declared.options.Task.{Task}
use Rattle.iam_options.specs.declared.options.Task.TheVariants.{Check, Decide, Matrix, First}

-- what is asked about is what any value of a key that nothing gives can turn
abbrev pub asks_any_key : Command → Bool
asks_any_key (World command) = false
asks_any_key (AnyKey command) = true
asks_any_key (Changes command) = false
asks_any_key (EveryChanges command) = false
asks_any_key (AnyKeyChanges command) = false
asks_any_key (Ask command) = false
asks_any_key (Every command) = false

-- what is asked about are changes between two worlds that any value of such a key makes
abbrev pub asks_any_key_changes : Command → Bool
asks_any_key_changes (World command) = false
asks_any_key_changes (AnyKey command) = false
asks_any_key_changes (Changes command) = false
asks_any_key_changes (EveryChanges command) = false
asks_any_key_changes (AnyKeyChanges command) = true
asks_any_key_changes (Ask command) = false
asks_any_key_changes (Every command) = false

abbrev pub is_first : Task → Bool
is_first Check = false
is_first (Decide p a r) = false
is_first Matrix = false
is_first First = true

-- the word says what holds whatever values keys have
abbrev pub is_any_key_word : List ℕ → Bool
is_any_key_word word =
    bytes_eq word (codes "always") || (bytes_eq word (codes "never") || (bytes_eq word (codes "possible") || bytes_eq word (codes "open")))

-- each word for decisions does; or, where this is not asked, none does
abbrev pub AreWords : ArgMatches → Bool → Type 0
AreWords matches any_key = All (λ word. is_any_key_word word ≡ any_key) (texts_at matches (codes "decision"))

-- the words for decisions are others than those that stand beside the flag, or without it
abbrev pub HasOtherWords : ArgMatches → Type 0
HasOtherWords matches = (any_key : Bool) × IsFlag matches (codes "any-key") any_key × ¬ AreWords matches any_key
