-- An object with members of known names alone has none of another name.
use Rattle.std.proofs.Common.{◌≡◌, ℕ, List, [], ◌∷◌, map, Bool, true, false, not, ◌||◌, Some, None, Ordering, Less, Equal, Greater, is_eq, nat_cmp, refl, sym, ap, ◌∙◌}
use Rattle.std.specs.Cmp.Lexicographic.{slice_cmp}
use Rattle.std.specs.Ordering.{match_ordering}
use Rattle.std.specs.Str.{bytes_eq}
use Rattle.std.proofs.lemmas.Map.Text.{is_eq-slice_cmp}
use Rattle.std.proofs.lemmas.Slice.Eq.{bytes_eq-Decides}
use Rattle.serde_json.specs.Data.{Data, null, boolean, number, string, array, object, Members, no_members, member}
use Rattle.serde_json.specs.Find.{get, get_member}
use Rattle.iam_json.specs.Look.{has_other, has_unknown, is_one_of}
use Rattle.iam_shape.specs.Path.{name_text}
use Rattle.iam_shape.specs.Shape as shape
use Rattle.iam_shape.specs.Shape.{has_only}
use Rattle.iam_shape.specs.declared.path.Name.TheVariants.{User, Identity, Boundary, Context, SessionPolicies}
use Rattle.iam_shape.proofs.Texts.{not_true}

absent_member : (names : List (List ℕ)) (name : List ℕ) → is_one_of names name ≡ false → (ms : Members) → has_other (is_one_of names) ms ≡ false → get_member name ms ≡ None
absent_member names name apart no_members none = refl
absent_member names name apart (member k d rest) none =
    go (is_one_of names k) refl (slice_cmp nat_cmp name k) (is_eq-slice_cmp name k) (absent_member names name apart rest) none
  where
    go : (known : Bool) → is_one_of names k ≡ known → (o : Ordering) → is_eq o ≡ bytes_eq name k → (has_other (is_one_of names) rest ≡ false → get_member name rest ≡ None)
        → (not known || has_other (is_one_of names) rest) ≡ false → match_ordering o (get_member name rest) (Some d) (get_member name rest) ≡ None
    go false is o same later none = cc
    go true is Less same later none = later none
    go true is Greater same later none = later none
    go true is Equal same later none =
        let one : name ≡ k = (bytes_eq-Decides name k).0 (sym same) in
        let wrong : true ≡ false = sym is ∙ ap (is_one_of names) (sym one) ∙ apart in
        cc

-- a member of another name than these is absent
pub absent : (names : List (List ℕ)) (name : List ℕ) (d : Data) → is_one_of names name ≡ false → has_unknown names d ≡ false → get name d ≡ None
absent names name null apart none = refl
absent names name (boolean b) apart none = refl
absent names name (number n) apart none = refl
absent names name (string s) apart none = refl
absent names name (array ds) apart none = refl
absent names name (object ms) apart none = absent_member names name apart ms none

-- a user has no session policies
pub no_session_policies : (d : Data) → has_only (User ∷ (Identity ∷ (Boundary ∷ (Context ∷ [])))) d ≡ true → shape.member SessionPolicies d ≡ None
no_session_policies d only =
    let names : List (List ℕ) = map name_text (User ∷ (Identity ∷ (Boundary ∷ (Context ∷ [])))) in
    absent names (name_text SessionPolicies) d refl (not_true (has_unknown names d) only)
