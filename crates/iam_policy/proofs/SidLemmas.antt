-- The set of the Sids that were seen.
use Rattle.std.proofs.Common.{subst, ◌≡◌, ℕ, List, [], ◌∷◌, ◌++◌, Bool, true, false, not, ◌&&◌, ◌||◌, refl, sym, ap, ◌∙◌, Option, Some, cond, length, ◌==◌}
use Rattle.std.proofs.lemmas.List.Folds.{list_any-append}
use Rattle.std.proofs.lemmas.Map.Text.{is_eq-slice_cmp}
use Rattle.std.proofs.lemmas.Slice.Eq.{bytes_eq-Decides}
use Rattle.std.specs.Bool.{Decides}
use Rattle.std.specs.Borrow.{Bor}
use Rattle.std.specs.BTreeSet.{BTreeSet, Updates}
use Rattle.std.specs.Cmp.Lexicographic.{slice_cmp}
use Rattle.std.specs.Option.{option_map_or, option_to_list}
use Rattle.std.specs.declared.cmp.Ordering.{Ordering}
use Rattle.std.specs.Ordering.{nat_cmp}
use Rattle.std.specs.Str.{bytes_eq}
use Rattle.serde_json.specs.Data.{Data}
use Rattle.iam_json.specs.Look.{is_one_of}
use Rattle.iam_policy.specs.Code.Sids.{contains_str, HasSids}
use Rattle.iam_policy.specs.Statement.{sid_of}
use Rattle.iam_policy.specs.Fault.{repeats_sid}

same_way : (a b : List ℕ) → bytes_eq a b ≡ bytes_eq b a
same_way a b = go (bytes_eq a b) (bytes_eq b a) (bytes_eq-Decides a b) (bytes_eq-Decides b a)
  where
    go : (x y : Bool) → Decides x (a ≡ b) → Decides y (b ≡ a) → x ≡ y
    go true true p q = refl
    go false false p q = refl
    go true false p q = sym (q.1 (sym (p.0 refl)))
    go false true p q = p.1 (sym (q.0 refl))

-- one more text among others
is_one_of_more : (texts : List (List ℕ)) (new text : List ℕ) → is_one_of (texts ++ (new ∷ [])) text ≡ (is_one_of texts text || bytes_eq text new)
is_one_of_more texts new text =
    list_any-append (bytes_eq text) texts (new ∷ []) ∙ ap (λ b. is_one_of texts text || b) (alone (bytes_eq text new))
  where
    alone : (b : Bool) → (b || false) ≡ b
    alone true = refl
    alone false = refl

-- the order of texts that are lent
abbrev str_cmp : Bor (List ℕ) → Bor (List ℕ) → Ordering
str_cmp x y = slice_cmp nat_cmp x.now y.now

-- a set with one more text
pub has_more : (old new : BTreeSet (Bor (List ℕ))) (sid : Bor (List ℕ)) (earlier : List (List ℕ)) → HasSids old earlier
    → Updates str_cmp old new sid true → HasSids new (earlier ++ (sid.now ∷ []))
has_more old new sid earlier has updates text =
    updates.0 (record { ref_ptr = (0, 0); now = text })
    ∙ ap (λ b. cond b true (contains_str old text)) (is_eq-slice_cmp sid.now text ∙ same_way sid.now text)
    ∙ ap (λ b. cond (bytes_eq text sid.now) true b) (has text)
    ∙ either (bytes_eq text sid.now) (is_one_of earlier text)
    ∙ sym (is_one_of_more earlier sid.now text)
  where
    either : (a b : Bool) → cond a true b ≡ (b || a)
    either true true = refl
    either true false = refl
    either false true = refl
    either false false = refl

-- whether the `Sid` is repeated, by whether the set has it
repeats_by : (earlier : List (List ℕ)) (s : Data) (sid : List ℕ) (found : Bool) → Some sid ≡ sid_of s → found ≡ is_one_of earlier sid
    → (not (length sid == 0) && found) ≡ repeats_sid earlier s
repeats_by earlier s sid found stands is =
    ap (λ b. not (length sid == 0) && b) is
    ∙ ap (λ o. option_map_or (λ t. not (length t == 0) && is_one_of earlier t) o false) stands

not_not : (b : Bool) → not (not b) ≡ b
not_not true = refl
not_not false = refl

-- what is answered for a `Sid` that is not empty
pub repeats_filled : (earlier : List (List ℕ)) (s : Data) (sid : List ℕ) (found is_new : Bool) → Some sid ≡ sid_of s → found ≡ is_one_of earlier sid
    → is_new ≡ not found → (length sid == 0) ≡ false → not is_new ≡ repeats_sid earlier s
repeats_filled earlier s sid found is_new stands is new filled =
    ap not new ∙ not_not found ∙ ap (λ b. not b && found) (sym filled) ∙ repeats_by earlier s sid found stands is

-- an empty one repeats none
pub repeats_empty : (earlier : List (List ℕ)) (s : Data) (sid : List ℕ) (found empty : Bool) → Some sid ≡ sid_of s → found ≡ is_one_of earlier sid
    → empty ≡ (length sid == 0) → empty ≡ true → not empty ≡ repeats_sid earlier s
repeats_empty earlier s sid found empty stands is same filled =
    ap not filled ∙ ap (λ b. not b && found) (sym filled ∙ same) ∙ repeats_by earlier s sid found stands is

-- the Sids with that of one more statement
pub noted : (old new : BTreeSet (Bor (List ℕ))) (sid : Bor (List ℕ)) (s : Data) (earlier : List (List ℕ)) → Some sid.now ≡ sid_of s → HasSids old earlier
    → Updates str_cmp old new sid true → HasSids new (earlier ++ option_to_list (sid_of s))
noted old new sid s earlier stands has updates =
    let P : Option (List ℕ) → Type 0 = λ o. HasSids new (earlier ++ option_to_list o) in
    subst P stands (has_more old new sid earlier has updates)
