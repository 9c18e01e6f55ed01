-- Drafts in a document of a version.
use Rattle.std.proofs.Common.{◌≡◌, ◌↔◌, ℕ, List, Bool, true, IsTrue, refl, sym, ◌∙◌, map}
use Rattle.std.specs.Str.{chars, IsUtf8}
use Rattle.iam_text.specs.declared.draft.Piece.{Piece}
use Rattle.iam_text.specs.declared.version.Version.{Version}
use Rattle.iam_text.specs.declared.version.Version.TheVariants.{V2012, V2008}
use Rattle.iam_glob.specs.Glob.{sign_of}
use Rattle.iam_text.specs.Draft.{IsDraftIn, plain_draft}
use Rattle.iam_text.specs.Variables.{is_draft_in}
use Rattle.iam_text.proofs.DraftLemmas.{draft_unique}
use Rattle.iam_text.proofs.VariableLemmas.{draft_tested, drafted}

pub draft_unique_in : (version : Version) (wild : Bool) (text : List ℕ) (pieces other : List Piece) → IsDraftIn version wild text pieces → IsDraftIn version wild text other
    → pieces ≡ other
draft_unique_in V2012 wild text pieces other a b = draft_unique wild text pieces other a b
draft_unique_in V2008 wild text pieces other a b = a ∙ sym b

draft_tested_in : (version : Version) (wild : Bool) (text : List ℕ) → IsUtf8 text → IsTrue (is_draft_in version text) ↔ ((pieces : List Piece) × IsDraftIn version wild text pieces)
draft_tested_in V2012 wild text utf8 = draft_tested wild text utf8
draft_tested_in V2008 wild text utf8 = (λ holds. (plain_draft (map (sign_of wild) (chars text)), refl), λ d. refl)

-- a test that agrees with the grammar tells whether there is a draft
pub draft_told_in : (told : Bool) (version : Version) (text : List ℕ) → IsUtf8 text → told ≡ is_draft_in version text → (wild : Bool)
    → IsTrue told ↔ ((pieces : List Piece) × IsDraftIn version wild text pieces)
draft_told_in told version text utf8 is wild =
    let tested = draft_tested_in version wild text utf8 in
    (λ holds. tested.0 (sym is ∙ holds), λ d. is ∙ tested.1 d)

-- a text with a draft passes
pub passes : (version : Version) (wild : Bool) (text : List ℕ) (pieces : List Piece) → IsDraftIn version wild text pieces → is_draft_in version text ≡ true
passes V2012 wild text pieces d = drafted wild text pieces d
passes V2008 wild text pieces d = refl
