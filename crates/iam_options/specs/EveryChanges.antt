-- What the command line of `changes --every` says, where `clap` has matched its words. LOGIC 13.3.
use Rattle.std.specs.Prelude.{◌≡◌, ◌⊎◌, ◌<◌, ℕ, Bool, true, false, List, [], ◌∷◌, codes, length}
use Rattle.std.specs.Prelude.{Option, None, MatchOption, String, string_bytes}
use Rattle.std.specs.Global.{Global}
use Rattle.clap.specs.Matches.{first_value, found_of}
use Rattle.clap.specs.declared.parser.matches.ArgMatches.{ArgMatches}
use Rattle.iam_options.specs.Words.{file_named, texts_at}
use Rattle.iam_options.specs.declared.command.Command.{Command}
use Rattle.iam_options.specs.declared.command.Command.TheVariants.{World, AnyKey, Changes, EveryChanges, AnyKeyChanges, Ask, Every}

-- what is asked about are the changes between two worlds for all names
abbrev pub asks_every : Command → Bool
asks_every (World command) = false
asks_every (AnyKey command) = false
asks_every (Changes command) = false
asks_every (EveryChanges command) = true
asks_every (AnyKeyChanges command) = false
asks_every (Ask command) = false
asks_every (Every command) = false

-- the text is the only one that stands under this name, and none where none does
abbrev pub IsOnlyAt : ArgMatches → List ℕ → Option (String Global) → Type 0
IsOnlyAt matches name text = MatchOption text (texts_at matches name ≡ []) (λ only. texts_at matches name ≡ string_bytes only ∷ [])

-- of three inputs, each a file or else standard input, at least two are standard input
abbrev pub AreShared : {A : Type 0} → Option A → Option A → Option A → Type 0
AreShared before after texts =
    ((before ≡ None) × (after ≡ None)) ⊎ ((before ≡ None) × (texts ≡ None)) ⊎ ((after ≡ None) × (texts ≡ None))

-- the inputs that the words name are so
abbrev pub NamesShared : ArgMatches → Type 0
NamesShared matches =
    let named : List ℕ → Option (List ℕ) = λ name. file_named (first_value (found_of matches) name) in
    AreShared (named (codes "BEFORE")) (named (codes "AFTER")) (named (codes "texts"))

-- the command is refused: two inputs would be standard input, or several patterns of actions stand there
abbrev pub IsRefused : ArgMatches → Type 0
IsRefused matches = NamesShared matches ⊎ (1 < length (texts_at matches (codes "action")))
