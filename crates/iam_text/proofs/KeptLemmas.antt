-- The one draft that is kept with a text, and what its walk finds.
use Rattle.std.proofs.Common.{◌≡◌, ℕ, List, [], ◌∷◌, ◌++◌, Bool, refl, sym, subst, ◌∙◌, map}
use Rattle.std.proofs.lemmas.List.{append_assoc}
use mathlib.Core.HLevel.{⊥_prop}
use Rattle.std.proofs.Math.Logic.{∥∥₁_elim}
use Rattle.std.specs.Coded.{Coded-set, coded_list}
use Rattle.std.specs.Str.{chars, IsUtf8}
use Rattle.iam_text.specs.contracts.draft.Piece.{the_row}
use Rattle.iam_text.specs.declared.draft.Piece.{Piece}
use Rattle.iam_text.specs.declared.version.Version.{Version}
use Rattle.iam_text.specs.declared.version.Version.TheVariants.{V2012, V2008}
use Rattle.iam_text.specs.Code.Forms.{HasForm}
use Rattle.iam_text.specs.Stretches.{IsCutAtForm, NoneBegins}
use Rattle.iam_text.specs.Code.Kept.{OneDraft, OneDraft-prop}
use Rattle.iam_glob.specs.Glob.{sign_of}
use Rattle.iam_text.specs.Draft.{IsDraft, IsDraftIn, plain_draft}
use Rattle.iam_text.proofs.DraftLemmas.{Along, along_cut, along_form, draft_along_off, none_read, plain_drafted}
use Rattle.iam_text.proofs.VersionLemmas.{draft_unique_in}

pub kept : (version : Version) (wild : Bool) (text : List ℕ) (pieces : List Piece) → IsDraftIn version wild text pieces → OneDraft version wild text
kept version wild text pieces draft = (pieces, ∣ (draft, λ other. draft_unique_in version wild text pieces other draft) ∣₁)

-- each draft of the text is the one that is kept
pub kept_is : (version : Version) (wild : Bool) (text : List ℕ) (one : OneDraft version wild text) (pieces : List Piece)
    → IsDraftIn version wild text pieces → one.0 ≡ pieces
kept_is version wild text one pieces draft =
    ∥∥₁_elim one.1 (Coded-set (coded_list the_row.coded) one.0 pieces) (λ x. x.1 pieces draft)

-- so where a draft is known, the one that is kept is a draft
pub kept_draft : (version : Version) (wild : Bool) (text : List ℕ) (pieces : List Piece) → IsDraftIn version wild text pieces
    → (one : OneDraft version wild text) → IsDraftIn version wild text one.0
kept_draft version wild text pieces draft one =
    let P : List Piece → Type 0 = λ ps. IsDraftIn version wild text ps in
    subst P (sym (kept_is version wild text one pieces draft)) draft

-- the same text has the same one draft
pub kept_same : (version : Version) (wild : Bool) (text other : List ℕ) → other ≡ text → (one : OneDraft version wild text) (again : OneDraft version wild other)
    → again.0 ≡ one.0
kept_same version wild text other same one again =
    let P : List ℕ → Type 0 = λ t. IsDraftIn version wild t one.0 in
    ∥∥₁_elim one.1 (Coded-set (coded_list the_row.coded) again.0 one.0) (λ x. kept_is version wild other again one.0 (subst P (sym same) x.0))

-- also where version, and what wildcards are, are told to be the same
pub kept_alike : (version wanted : Version) (wild read : Bool) (text other : List ℕ) → text ≡ other → wild ≡ read → version ≡ wanted
    → (one : OneDraft version wild text) (again : OneDraft wanted read other) → one.0 ≡ again.0
kept_alike version wanted wild read text other same wildcards of_version one again =
    let P : Version → Type 0 = λ v. (w : Bool) → w ≡ read → (it : OneDraft v w text) → it.0 ≡ again.0 in
    let Q : Bool → Type 0 = λ w. (it : OneDraft wanted w text) → it.0 ≡ again.0 in
    subst P (sym of_version) (λ w is. subst Q (sym is) (kept_same wanted read other text same again)) wild wildcards one

-- up to the form that stands behind the first `${`
over : (wild : Bool) (text front inside behind : List ℕ) (piece : Piece) → IsUtf8 front → IsCutAtForm text front inside → HasForm piece inside behind
    → Along wild text (plain_draft (map (sign_of wild) (chars front)) ++ piece ∷ []) behind
over wild text front inside behind piece utf8 cut has =
    let plain = plain_draft (map (sign_of wild) (chars front)) in
    along_form wild text plain (plain ++ piece ∷ []) inside behind piece (along_cut wild text [] plain text front inside (none_read wild text) utf8 cut refl) has refl

-- the draft in a document of version 2012-10-17, and back
draft_2012 : (version : Version) (wild : Bool) (text : List ℕ) (pieces : List Piece) → version ≡ V2012 → IsDraftIn version wild text pieces → IsDraft wild text pieces
draft_2012 version wild text pieces is draft = let P : Version → Type 0 = λ v. IsDraftIn v wild text pieces in subst P is draft

draft_in : (version : Version) (wild : Bool) (text : List ℕ) (pieces : List Piece) → version ≡ V2012 → IsDraft wild text pieces → IsDraftIn version wild text pieces
draft_in version wild text pieces is draft = let P : Version → Type 0 = λ v. IsDraftIn v wild text pieces in subst P (sym is) draft

-- what is left behind a form has its one draft too
pub kept_behind : (version : Version) (wild : Bool) (text front inside behind : List ℕ) (piece : Piece) → version ≡ V2012 → IsUtf8 front → IsCutAtForm text front inside
    → HasForm piece inside behind → OneDraft version wild text → OneDraft version wild behind
kept_behind version wild text front inside behind piece is utf8 cut has one =
    ∥∥₁_elim one.1 (OneDraft-prop version wild behind)
    (λ x.
    let left = (over wild text front inside behind piece utf8 cut has).back one.0 (draft_2012 version wild text one.0 is x.0) in
    kept version wild behind left.0 (draft_in version wild behind left.0 is left.1))

-- it is the front, the form and the draft of what is left
pub kept_form : (version : Version) (wild : Bool) (text front inside behind : List ℕ) (piece : Piece) → version ≡ V2012 → IsUtf8 front → IsCutAtForm text front inside
    → HasForm piece inside behind → (one : OneDraft version wild text) (rest : OneDraft version wild behind)
    → one.0 ≡ plain_draft (map (sign_of wild) (chars front)) ++ (piece ∷ rest.0)
kept_form version wild text front inside behind piece is utf8 cut has one rest =
    let plain = plain_draft (map (sign_of wild) (chars front)) in
    ∥∥₁_elim rest.1 (Coded-set (coded_list the_row.coded) one.0 (plain ++ (piece ∷ rest.0)))
    (λ x.
    let whole = (over wild text front inside behind piece utf8 cut has).on rest.0 (draft_2012 version wild behind rest.0 is x.0) in
    kept_is version wild text one ((plain ++ piece ∷ []) ++ rest.0) (draft_in version wild text ((plain ++ piece ∷ []) ++ rest.0) is whole)
    ∙ append_assoc plain (piece ∷ []) rest.0)

-- where no `${` stands it is the characters
pub kept_plain : (version : Version) (wild : Bool) (text : List ℕ) → version ≡ V2012 → IsUtf8 text → NoneBegins text [] → (one : OneDraft version wild text)
    → one.0 ≡ plain_draft (map (sign_of wild) (chars text))
kept_plain version wild text is utf8 none one =
    let plain = plain_draft (map (sign_of wild) (chars text)) in
    kept_is version wild text one plain (draft_in version wild text plain is (plain_drafted wild text utf8 none))

-- and so in version 2008-10-17
pub kept_literal : (version : Version) (wild : Bool) (text : List ℕ) → version ≡ V2008 → (one : OneDraft version wild text)
    → one.0 ≡ plain_draft (map (sign_of wild) (chars text))
kept_literal version wild text is one =
    let plain = plain_draft (map (sign_of wild) (chars text)) in
    let P : Version → Type 0 = λ v. IsDraftIn v wild text plain in
    kept_is version wild text one plain (subst P (sym is) refl)

-- a form stands behind each `${`
pub kept_off : (version : Version) (wild : Bool) (text front inside : List ℕ) → version ≡ V2012 → IsUtf8 front → IsCutAtForm text front inside
    → ((piece : Piece) (behind : List ℕ) → ¬ HasForm piece inside behind) → ¬ OneDraft version wild text
kept_off version wild text front inside is utf8 cut off one =
    let plain = plain_draft (map (sign_of wild) (chars front)) in
    ∥∥₁_elim one.1 ⊥_prop
    (λ x.
    draft_along_off wild text plain inside (along_cut wild text [] plain text front inside (none_read wild text) utf8 cut refl) off one.0
    (draft_2012 version wild text one.0 is x.0))
