-- Two worlds, and the principals whose access is compared in them. LOGIC 13.10.
use Rattle.std.specs.Prelude.{◌≡◌, ◌++◌, ℕ, All, List, None, Option, Some}
use Rattle.std.specs.List.{AllZip}
use Rattle.iam_decision.specs.Matched.{Selects}
use Rattle.iam_world.specs.World.{WorldValue}
use Rattle.iam_asked.specs.Texts.{IsFirstAt, IsNowhere, principal_texts}
use Rattle.iam_every.specs.Every.{EveryValue, every_of}
use Rattle.iam_every_changes.specs.States.{AreBoth, BothValue}
use Rattle.iam_every_changes.specs.declared.compared.Compared.{Compared}
use Rattle.iam_every_changes.specs.declared.compared.Who.{Who}

-- what is asked of all names before and after
pub record ComparedValue : Type 0 where
  pub before : EveryValue
  pub after : EveryValue

abbrev pub compared_of : Compared → ComparedValue
compared_of compared = record { before = every_of compared.before; after = every_of compared.after }

-- a principal by its text, and its number in each world, if it is there
pub record WhoValue : Type 0 where
  pub text : List ℕ
  pub before : Option ℕ
  pub after : Option ℕ

abbrev pub who_of : Who → WhoValue
who_of who = record { text = who.text.now; before = who.before; after = who.after }

-- the number is that of the principal of the text, which has none where the world does not have it
abbrev pub IsNumberIn : WorldValue → List ℕ → Option ℕ → Type 0
IsNumberIn world text None = IsNowhere (principal_texts world) text
IsNumberIn world text (Some p) = IsFirstAt (principal_texts world) text p

pub record IsWho (before after : WorldValue) (text : List ℕ) (who : WhoValue) : Type 0 where
  pub is : who.text ≡ text
  pub was : IsNumberIn before text who.before
  pub now : IsNumberIn after text who.after

-- those after in their order, then those that the world before alone has
abbrev pub ArePrincipals : WorldValue → WorldValue → List WhoValue → Type 0
ArePrincipals before after whos =
    (alone : List (List ℕ)) × Selects (IsNowhere (principal_texts after)) (principal_texts before) alone
    × AllZip (IsWho before after) (principal_texts after ++ alone) whos

-- its states
abbrev pub both_at : ComparedValue → WhoValue → BothValue
both_at compared who = record {
  before = record { every = compared.before; principal = who.before };
  after = record { every = compared.after; principal = who.after };
}

-- all of them can be compared
abbrev pub AreComparable : ComparedValue → List WhoValue → Type 0
AreComparable compared whos = All (λ who. AreBoth (both_at compared who)) whos
