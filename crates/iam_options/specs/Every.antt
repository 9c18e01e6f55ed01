-- What the command line of `every` says, where `clap` has matched its words. LOGIC 13.3.
use Rattle.std.specs.Prelude.{◌≡◌, ◌≢◌, ◌⊎◌, Some, None, codes, string_bytes}
use Rattle.clap.specs.Matches.{first_value, found_of}
use Rattle.clap.specs.declared.parser.matches.ArgMatches.{ArgMatches}
use Rattle.iam_options.specs.AnyKey.{HasOtherWords}
use Rattle.iam_options.specs.Words.{IsFileAt, IsNumberAt, NamesNeither}
use Rattle.iam_options.specs.declared.every.Texts.{Texts}
use Rattle.iam_options.specs.declared.every.Texts.TheVariants.{File, Like, Account}

-- of which texts something is said: those of a file, or else those of one line
abbrev pub AreTextsAt : ArgMatches → Texts → Type 0
AreTextsAt matches (File name) = (first_value (found_of matches) (codes "texts") ≢ None) × IsFileAt matches (codes "texts") name
AreTextsAt matches (Like pattern number) =
    (first_value (found_of matches) (codes "texts") ≡ None) × (first_value (found_of matches) (codes "resource") ≡ Some (string_bytes pattern))
    × IsNumberAt matches (codes "like") 64 (Some number)
AreTextsAt matches (Account pattern id) =
    (first_value (found_of matches) (codes "texts") ≡ None) × (first_value (found_of matches) (codes "resource") ≡ Some (string_bytes pattern))
    × IsNumberAt matches (codes "like") 64 None × (first_value (found_of matches) (codes "account") ≡ Some (string_bytes id))

-- none are said
pub record NamesNoTexts (matches : ArgMatches) : Type 0 where
  pub file : first_value (found_of matches) (codes "texts") ≡ None
  pub line :
      (first_value (found_of matches) (codes "resource") ≡ None)
      ⊎ (IsNumberAt matches (codes "like") 64 None × (first_value (found_of matches) (codes "account") ≡ None))

-- the command is refused: no texts are said, or both inputs would be standard input, or a word for decisions is one of the other kind
abbrev pub IsRefused : ArgMatches → Type 0
IsRefused matches = NamesNoTexts matches ⊎ NamesNeither matches (codes "WORLD") (codes "texts") ⊎ HasOtherWords matches
