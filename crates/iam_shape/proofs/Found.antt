-- One member more among those of an account that were found.
use Rattle.std.proofs.Common.{◌≡◌, ℕ, List, Bool, true, false, not, ◌||◌, codes, Some, Ordering, Less, Equal, Greater, is_eq, nat_cmp, refl, sym, ap, ◌∙◌}
use Rattle.std.specs.Bool.{Decides}
use Rattle.std.specs.Cmp.Lexicographic.{slice_cmp}
use Rattle.std.specs.Option.{option_or}
use Rattle.std.specs.Ordering.{match_ordering}
use Rattle.std.specs.Str.{bytes_eq}
use Rattle.std.proofs.lemmas.Map.Text.{is_eq-slice_cmp}
use Rattle.std.proofs.lemmas.Slice.Eq.{bytes_eq-Decides}
use Rattle.serde_json.specs.Data.{Data, Members, member}
use Rattle.serde_json.specs.Find.{get_member}
use Rattle.iam_json.specs.Look.{has_other, is_one_of}
use Rattle.iam_shape.specs.Code.Members.{AreFound, account_names, data_of}
use Rattle.iam_shape.specs.declared.account_members.Found.{Found}

-- a member of another name is not the one that is sought
get_other : (name k : List ℕ) (d : Data) (rest : Members) → (k ≡ name → ⊥) → get_member name (member k d rest) ≡ get_member name rest
get_other name k d rest apart = go (slice_cmp nat_cmp name k) (is_eq-slice_cmp name k)
  where
    go : (o : Ordering) → is_eq o ≡ bytes_eq name k → match_ordering o (get_member name rest) (Some d) (get_member name rest) ≡ get_member name rest
    go Less same = refl
    go Greater same = refl
    go Equal same = absurd (apart (sym ((bytes_eq-Decides name k).0 (sym same))))

differs : (k name : List ℕ) → (k ≡ name → ⊥) → bytes_eq k name ≡ false
differs k name apart = go (bytes_eq k name) (bytes_eq-Decides k name)
  where
    go : (b : Bool) → Decides b (k ≡ name) → b ≡ false
    go true p = absurd (apart (p.0 refl))
    go false p = refl

or_true : (a b c : Bool) → (a || (b || (c || false))) ≡ false → (d e : Bool) → (d || (not (a || (b || (c || false))) || e)) ≡ true
or_true a b c none true e = refl
or_true a b c none false e = ap (λ known. not known || e) none

-- a member of no name that an account's have
pub unknown_more : (found : Found) (k : List ℕ) (d : Data) (all rest : Members) → (k ≡ codes "id" → ⊥) → (k ≡ codes "management" → ⊥) → (k ≡ codes "org" → ⊥)
    → AreFound all (member k d rest) found
    → AreFound all rest (record { id = found.id; management = found.management; org = found.org; has_other = true })
unknown_more found k d all rest no_id no_management no_org before = record {
  id = before.id ∙ ap (option_or (data_of found.id)) (get_other (codes "id") k d rest no_id);
  management = before.management ∙ ap (option_or (data_of found.management)) (get_other (codes "management") k d rest no_management);
  org = before.org ∙ ap (option_or (data_of found.org)) (get_other (codes "org") k d rest no_org);
  other =
      before.other
      ∙ or_true (bytes_eq k (codes "id")) (bytes_eq k (codes "management")) (bytes_eq k (codes "org")) unlisted found.has_other
      (has_other (is_one_of account_names) rest);
}
  where
    unlisted : is_one_of account_names k ≡ false
    unlisted = rw (differs k (codes "id") no_id, differs k (codes "management") no_management, differs k (codes "org") no_org) refl
