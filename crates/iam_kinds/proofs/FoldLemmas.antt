-- Without regard to case.
use Rattle.std.proofs.Common.{◌≡◌, ◌↔◌, ◌⊎◌, inl, inr, ℕ, ◌≤◌, ◌+◌, Bool, true, false, ◌==◌, ◌&&◌, ◌||◌, List, [], ◌∷◌, ◌++◌, length, map, refl, sym, ap, ◌∙◌, subst, arith}
use Rattle.std.proofs.lemmas.Bool.{eq-eqb, eqb-true}
use Rattle.std.proofs.lemmas.Bool.Decides.{nat_tests}
use Rattle.std.proofs.lemmas.List.{length-map, map-append}
use Rattle.std.proofs.lemmas.Str.Ascii.{lowercase-lowercase, lowercase_is}
use Rattle.std.proofs.Math.Utf8.{low_scalar}
use Rattle.std.specs.Borrow.{Bor}
use Rattle.std.specs.Char.{IsScalar}
use Rattle.std.specs.Global.{Vec}
use Rattle.std.specs.Int.{is_in_range}
use Rattle.std.specs.List.{Contains, list_all}
use Rattle.std.specs.Str.{chars}
use Rattle.iam_glob.specs.Glob.{Matches, folded, sign_by}
use Rattle.iam_glob.specs.declared.sign.Sign.{Sign}
use Rattle.iam_glob.specs.declared.signs.Signs.{Signs}
use Rattle.iam_kinds.specs.Answers.{characters_in, question_in, signs_of}
use Rattle.iam_kinds.specs.Shown.{AreKinds, AreKindsFold}
use Rattle.iam_kinds.specs.Code.{first_stage}
use Rattle.iam_kinds.specs.Spelled.{EachBehind, IsCased, IsCasedAt, IsCasedBehind}
use Rattle.iam_kinds.specs.States.{IsPlace, Machine, machine_of}
use Rattle.iam_kinds.specs.Walk.{IsCasedFor, machine_at}
use Rattle.iam_kinds.specs.declared.asked.Asked.{Asked}
use Rattle.iam_kinds.specs.declared.table.Pattern.{Pattern}
use Rattle.iam_kinds.specs.Kinds.{Agree, AgreeFold, GroupMatches, GroupMatchesFold, IsAction, IsBefore, IsIn, IsMeant, IsMeantFold, IsText, Question, folded_grammar, folded_question, is_folded, is_name_character, is_name_in, is_service_character, is_service_in}
use Rattle.iam_kinds.specs.declared.grammar.Grammar.{Grammar}
use Rattle.iam_kinds.specs.declared.grammar.Grammar.TheVariants.{AnyText, Action, FoldedText, FoldedAction}
use Rattle.iam_kinds.proofs.FewerLemmas.{ApartBy, apart_by, apart_unmap, apart_weaker, by_apart}
use Rattle.iam_kinds.proofs.Members.{In, from_map, in_map, in_of, of_in}
use Rattle.iam_kinds.proofs.PlaceLemmas.{both, le_cases}
use Rattle.iam_kinds.proofs.SpelledLemmas.{no_end}

-- ---- characters
pub all_both : (p q : ℕ → Bool) (text : List ℕ) → list_all (λ c. p c && q c) text ≡ true
    → (list_all p text ≡ true) × (list_all q text ≡ true)
all_both p q [] e = (refl, refl)
all_both p q (c ∷ text) e =
    let r = both (p c && q c) (list_all (λ c. p c && q c) text) e in
    let s = both (p c) (q c) r.0 in
    let t = all_both p q text r.1 in
    ((let h : p c ≡ true = s.0 in rw h t.0), (let h : q c ≡ true = s.1 in rw h t.1))

pub folds_all : (text : List ℕ) → list_all is_folded text ≡ true → map folded text ≡ text
folds_all [] e = refl
folds_all (c ∷ text) e =
    let r = both (is_folded c) (list_all is_folded text) e in
    ap (λ d. d ∷ map folded text) (eqb-true (folded c) c r.0) ∙ ap (λ t. c ∷ t) (folds_all text r.1)

pub folded_folds : (c : ℕ) → is_folded (folded c) ≡ true
folded_folds c = eq-eqb (folded (folded c)) (folded c) (lowercase-lowercase c)

pub all_folded : (text : List ℕ) → list_all is_folded (map folded text) ≡ true
all_folded [] = refl
all_folded (c ∷ text) = let h : is_folded (folded c) ≡ true = folded_folds c in rw h (all_folded text)

-- a property of characters that folding keeps
abbrev pub IsKept : (ℕ → Bool) → Type 0
IsKept p = (c : ℕ) → p c ≡ true → p (folded c) ≡ true

pub all_kept : (p : ℕ → Bool) → IsKept p → (text : List ℕ) → list_all p text ≡ true
    → list_all (λ c. p c && is_folded c) (map folded text) ≡ true
all_kept p kept [] e = refl
all_kept p kept (c ∷ text) e =
    let r = both (p c) (list_all p text) e in
    let h : p (folded c) ≡ true = kept c r.0 in
    let f : is_folded (folded c) ≡ true = folded_folds c in
    rw (h, f) (all_kept p kept text r.1)

pub small_letter : (c : ℕ) → 65 ≤ c → c ≤ 90 → is_in_range 97 122 (c + 32) ≡ true
small_letter c low high = grind (arith, nat_tests)

-- a character stays as it is, or folding makes a small letter of it
pub folded_cases : (c : ℕ) → (folded c ≡ c) ⊎ ((folded c ≡ c + 32) × (65 ≤ c) × (c ≤ 90))
folded_cases c = elim (le_cases c 65) [
  | inl below ↦ inl ((lowercase_is c).1 below)
  | inr low ↦ elim (le_cases 90 c) [
    | inl above ↦ inl ((lowercase_is c).2 above)
    | inr high ↦ inr ((lowercase_is c).0 (low, high), low, high)
  ]
]

pub or_inner : (a b d : Bool) → (((a || true) || b) || d) ≡ true
or_inner true b d = refl
or_inner false b d = refl

pub or_third : (a b : Bool) → ((a || true) || b) ≡ true
or_third true b = refl
or_third false b = refl

pub or_fourth : (a b d : Bool) → (((a || true) || b) || d) ≡ true
or_fourth true b d = refl
or_fourth false b d = refl

pub service_kept : IsKept is_service_character
service_kept c e = elim (folded_cases c) [
  | inl same ↦ ap is_service_character same ∙ e
  | inr r ↦ ap is_service_character r.0 ∙ small c r.1 r.2
]
  where
    small : (c : ℕ) → 65 ≤ c → c ≤ 90 → is_service_character (c + 32) ≡ true
    small c low high = let h : is_in_range 97 122 (c + 32) ≡ true = small_letter c low high in rw h (or_third (is_in_range 48 57 (c + 32) || is_in_range 65 90 (c + 32)) ((c + 32) == 45))

pub name_kept : IsKept is_name_character
name_kept c e = elim (folded_cases c) [
  | inl same ↦ ap is_name_character same ∙ e
  | inr r ↦ ap is_name_character r.0 ∙ small c r.1 r.2
]
  where
    small : (c : ℕ) → 65 ≤ c → c ≤ 90 → is_name_character (c + 32) ≡ true
    small c low high = let h : is_in_range 97 122 (c + 32) ≡ true = small_letter c low high in
        rw h (or_fourth (is_in_range 48 57 (c + 32) || is_in_range 65 90 (c + 32)) ((c + 32) == 45) (((c + 32) == 95) || ((c + 32) == 46)))

pub scalar_folded : (c : ℕ) → IsScalar c → IsScalar (folded c)
scalar_folded c s = elim (folded_cases c) [
  | inl same ↦ subst IsScalar (sym same) s
  | inr r ↦ subst IsScalar (sym r.0) (let high : c ≤ 90 = r.2 in low_scalar (c + 32) (omega arith))
]

pub text_folded : (text : List ℕ) → IsText text → IsText (map folded text)
text_folded text scalars = λ c h.
    let r = from_map folded text c (in_of _ c h) in subst IsScalar r.2 (scalar_folded r.0 (scalars r.0 (of_in text r.0 r.1)))

-- ---- the grammar
pub action_folded : (fold : Bool) (text : List ℕ) → ((c : ℕ) → is_service_in fold c ≡ true → is_service_character c ≡ true)
    → ((c : ℕ) → is_name_in fold c ≡ true → is_name_character c ≡ true) → IsAction fold text → IsAction true (map folded text)
action_folded fold text service_is name_is (service, name, e, some, more, s, n) = (
  map folded service,
  map folded name,
  ap (map folded) e ∙ map-append folded service (58 ∷ name),
  (let same = length-map service folded in omega (arith, same)),
  (let same = length-map name folded in omega (arith, same)),
  all_kept is_service_character service_kept service (all_weaker (is_service_in fold) is_service_character service_is service s),
  all_kept is_name_character name_kept name (all_weaker (is_name_in fold) is_name_character name_is name n),
)
  where
    all_weaker : (p q : ℕ → Bool) → ((c : ℕ) → p c ≡ true → q c ≡ true) → (text : List ℕ) → list_all p text ≡ true → list_all q text ≡ true
    all_weaker p q is [] e = refl
    all_weaker p q is (c ∷ text) e =
        let r = both (p c) (list_all p text) e in let h : q c ≡ true = is c r.0 in rw h (all_weaker p q is text r.1)

pub in_folded : (grammar : Grammar) (text : List ℕ) → IsIn grammar text → IsIn (folded_grammar grammar) (map folded text)
in_folded AnyText text h = all_folded text
in_folded Action text h = action_folded false text (λ c e. e) (λ c e. e) h
in_folded FoldedText text h = all_folded text
in_folded FoldedAction text h =
    action_folded true text (λ c e. (both (is_service_character c) (is_folded c) e).0) (λ c e. (both (is_name_character c) (is_folded c) e).0) h

pub action_folds : (text : List ℕ) → IsAction true text → map folded text ≡ text
action_folds text (service, name, e, some, more, s, n) =
    let first = folds_all service (all_both is_service_character is_folded service s).1 in
    let second = folds_all name (all_both is_name_character is_folded name n).1 in
    ap (map folded) e ∙ map-append folded service (58 ∷ name) ∙ ap (λ t. t ++ (58 ∷ map folded name)) first ∙ ap (λ t. service ++ (58 ∷ t)) second ∙ sym e

pub in_folds : (grammar : Grammar) (text : List ℕ) → IsIn (folded_grammar grammar) text → map folded text ≡ text
in_folds AnyText text h = folds_all text h
in_folds Action text h = action_folds text h
in_folds FoldedText text h = folds_all text h
in_folds FoldedAction text h = action_folds text h

-- folding leaves a character of such a kind only where it is of that kind
pub service_back : (c : ℕ) → is_service_character (folded c) ≡ true → is_service_character c ≡ true
service_back c e = elim (folded_cases c) [
  | inl same ↦ ap is_service_character (sym same) ∙ e
  | inr r ↦ capital c r.1 r.2
]
  where
    capital : (c : ℕ) → 65 ≤ c → c ≤ 90 → is_service_character c ≡ true
    capital c low high = let h : is_in_range 65 90 c ≡ true = grind (arith, nat_tests) in
        rw h (or_inner (is_in_range 48 57 c) (is_in_range 97 122 c) (c == 45))

pub name_back : (c : ℕ) → is_name_character (folded c) ≡ true → is_name_character c ≡ true
name_back c e = elim (folded_cases c) [
  | inl same ↦ ap is_name_character (sym same) ∙ e
  | inr r ↦ capital c r.1 r.2
]
  where
    capital : (c : ℕ) → 65 ≤ c → c ≤ 90 → is_name_character c ≡ true
    capital c low high = let h : is_in_range 65 90 c ≡ true = grind (arith, nat_tests) in
        rw h (ap (λ b. b || ((c == 95) || (c == 46))) (or_inner (is_in_range 48 57 c) (is_in_range 97 122 c) (c == 45)))

pub all_back : (p : ℕ → Bool) → ((c : ℕ) → p (folded c) ≡ true → p c ≡ true) → (text : List ℕ)
    → list_all (λ c. p c && is_folded c) (map folded text) ≡ true
    → list_all p text ≡ true
all_back p back [] e = refl
all_back p back (c ∷ text) e =
    let r = both (p (folded c) && is_folded (folded c)) (list_all (λ c. p c && is_folded c) (map folded text)) e in
    let h : p c ≡ true = back c (both (p (folded c)) (is_folded (folded c)) r.0).0 in
    rw h (all_back p back text r.1)

pub colon_back : (c : ℕ) → folded c ≡ 58 → c ≡ 58
colon_back c e = elim (folded_cases c) [
  | inl same ↦ sym same ∙ e
  | inr r ↦ absurd (let low : 65 ≤ c = r.1 in let big : folded c ≡ c + 32 = r.0 in omega (arith, low, big, e))
]

pub cut_folded : (text one : List ℕ) (c : ℕ) (two : List ℕ) → map folded text ≡ one ++ (c ∷ two)
    → (a : List ℕ) × (d : ℕ) × (b : List ℕ) × (text ≡ a ++ (d ∷ b)) × (map folded a ≡ one) × (folded d ≡ c) × (map folded b ≡ two)
cut_folded [] [] c two e = absurd (let wrong : ⊥ = cc in wrong)
cut_folded [] (x ∷ one) c two e = absurd (let wrong : ⊥ = cc in wrong)
cut_folded (d ∷ text) [] c two e = ([], d, text, refl, refl, (let s : folded d ≡ c = cc in s), (let s : map folded text ≡ two = cc in s))
cut_folded (d ∷ text) (x ∷ one) c two e =
    let first : folded d ≡ x = cc in
    let rest : map folded text ≡ one ++ (c ∷ two) = cc in
    let r = cut_folded text one c two rest in
    (d ∷ r.0, r.1, r.2, ap (λ l. d ∷ l) r.3, ap (λ y. y ∷ map folded r.0) first ∙ ap (λ l. x ∷ l) r.4, r.5, r.6)

pub action_back : (text : List ℕ) → IsAction true (map folded text) → IsAction false text
action_back text (service, name, e, some, more, s, n) =
    let r = cut_folded text service 58 name e in
    let a = r.0 in
    let b = r.2 in (
      a,
      b,
      r.3 ∙ ap (λ d. a ++ (d ∷ b)) (colon_back r.1 r.5),
      (let same = length-map a folded in let l = ap length r.4 in omega (arith, same, l)),
      (let same = length-map b folded in let l = ap length r.6 in omega (arith, same, l)),
      all_back is_service_character service_back a (ap (list_all (is_service_in true)) r.4 ∙ s),
      all_back is_name_character name_back b (ap (list_all (is_name_in true)) r.6 ∙ n),
    )

-- a text is in the grammar where it is as folding leaves it; a grammar of folded texts has it only where folding leaves it
pub from_folded : (grammar : Grammar) (text : List ℕ) → ((first_stage grammar).fold ≡ true → map folded text ≡ text)
    → IsIn (folded_grammar grammar) (map folded text) → IsIn grammar text
from_folded AnyText text folds h = tt
from_folded Action text folds h = action_back text h
from_folded FoldedText text folds h = subst (IsIn FoldedText) (folds refl) h
from_folded FoldedAction text folds h = subst (IsIn FoldedAction) (folds refl) h

pub scalar_back : (c : ℕ) → IsScalar (folded c) → IsScalar c
scalar_back c s = elim (folded_cases c) [
  | inl same ↦ subst IsScalar same s
  | inr r ↦ (let high : c ≤ 90 = r.2 in low_scalar c (omega arith))
]

pub text_back : (text : List ℕ) → IsText (map folded text) → IsText text
text_back text scalars = λ c h. scalar_back c
    (scalars (folded c) (of_in (map folded text) (folded c) (in_map folded text c (in_of text c h))))

-- ---- the question
pub group_fold : (group : List (List Sign)) (text : List ℕ)
    → GroupMatches (map (map (sign_by folded)) group) (map folded text) ↔ GroupMatchesFold group text
group_fold group text = (
  λ (p, h, m).
      let r = from_map (map (sign_by folded)) group p (in_of _ p h) in
      (r.0, of_in group r.0 r.1, subst (λ (s : List Sign). Matches s (map folded text)) (sym r.2) m),
  λ (p, h, m). (map (sign_by folded) p, of_in _ _ (in_map (map (sign_by folded)) group p (in_of group p h)), m),
)

pub agree_fold : (question : Question) (one other : List ℕ) → Agree (folded_question question) (map folded one) (map folded other)
    → AgreeFold question one other
agree_fold question one other agrees = λ group h.
    let a = agrees (map (map (sign_by folded)) group) (of_in _ _ (in_map (map (map (sign_by folded))) question.groups group (in_of _ group h))) in (
      λ m. (group_fold group other).0 (a.0 ((group_fold group one).1 m)),
      λ m. (group_fold group one).0 (a.1 ((group_fold group other).1 m)),
    )

pub fold_agree : (question : Question) (one other : List ℕ) → AgreeFold question one other
    → Agree (folded_question question) (map folded one) (map folded other)
fold_agree question one other agrees = λ folded_group h.
    let r = from_map (map (map (sign_by folded))) question.groups folded_group (in_of _ folded_group h) in
    let a = agrees r.0 (of_in _ r.0 r.1) in
    subst (λ (g : List (List Sign)). GroupMatches g (map folded one) ↔ GroupMatches g (map folded other)) r.2 (
      (λ m. (group_fold r.0 other).1 (a.0 ((group_fold r.0 one).0 m))),
      (λ m. (group_fold r.0 one).1 (a.1 ((group_fold r.0 other).0 m))),
    )

pub meant_fold : (question : Question) (text : List ℕ) → ((first_stage question.grammar).fold ≡ true → map folded text ≡ text)
    → IsMeant (folded_question question) (map folded text) → IsMeantFold question text
meant_fold question text folds m = record {
  grammar = from_folded question.grammar text folds m.grammar;
  within = λ p h. m.within (map (sign_by folded) p) (of_in _ _ (in_map (map (sign_by folded)) question.within p (in_of _ p h)));
  unnamed = m.unnamed;
}

pub fold_meant : (question : Question) (text : List ℕ) → IsMeantFold question text → IsMeant (folded_question question) (map folded text)
fold_meant question text m = record {
  grammar = in_folded question.grammar text m.grammar;
  within = λ p h.
      let r = from_map (map (sign_by folded)) question.within p (in_of _ p h) in
      subst (λ (s : List Sign). Matches s (map folded text)) r.2 (m.within r.0 (of_in _ r.0 r.1));
  unnamed = m.unnamed;
}

-- where the grammar is of folded texts, folding leaves what is shown
pub cased_folds : (question : Question) (text : List ℕ) → IsCased question text → (first_stage question.grammar).fold ≡ true
    → map folded text ≡ text
cased_folds question text cased is = all text
    (λ before rest c e. subst (λ b. IsCasedBehind b question (map folded before) c) is (cased before rest c e))
  where
    all : (text : List ℕ) → EachBehind (λ before c. folded c ≡ c) text → map folded text ≡ text
    all [] each = refl
    all (c ∷ text) each =
        ap (λ d. d ∷ map folded text) (each [] text c refl)
        ∙ ap (λ l. c ∷ l) (all text (λ before rest d e. each (c ∷ before) rest d (ap (λ l. c ∷ l) e)))

pub kinds_fold : (question : Question) (texts shown : List (List ℕ)) → AreKinds (folded_question question) texts
    → map (map folded) shown ≡ texts
    → ((text : List ℕ) → Contains shown text → IsCased question text) → AreKindsFold question shown
kinds_fold question texts shown are same cased =
    let q = folded_question question in
    let listed : (text : List ℕ) → Contains shown text → Contains texts (map folded text) =
    λ text h. of_in texts (map folded text) (subst (In (map folded text)) same (in_map (map folded) shown text (in_of shown text h))) in
    let apart = subst (ApartBy (λ one other. ¬ Agree q one other)) (sym same)
    (apart_by (λ one other. ¬ Agree q one other) texts are.apart) in
    let order = subst (ApartBy IsBefore) (sym same) (apart_by IsBefore texts are.order) in record {
      characters = λ text h. text_back text (are.characters (map folded text) (listed text h));
      meant = λ text h. meant_fold question text (cased_folds question text (cased text h)) (are.meant (map folded text) (listed text h));
      whole = λ text scalars m.
          let r = are.whole (map folded text) (text_folded text scalars) (fold_meant question text m) in
          let s = from_map (map folded) shown r.0 (subst (In r.0) (sym same) (in_of texts r.0 r.1)) in
          (s.0, of_in shown s.0 s.1, agree_fold question s.0 text (subst (λ t. Agree q t (map folded text)) (sym s.2) r.2));
      apart =
          by_apart (λ one other. ¬ AgreeFold question one other) shown
          (apart_weaker (λ one other. ¬ Agree q (map folded one) (map folded other)) (λ one other. ¬ AgreeFold question one other) shown
          (λ x y h k differ agrees. differ (fold_agree question x y agrees))
          (apart_unmap (map folded) (λ one other. ¬ Agree q one other) shown apart));
      shortest = λ one text h scalars m agrees.
          let r = are.shortest (map folded one) (map folded text) (listed one h) (text_folded text scalars) (fold_meant question text m)
          (fold_agree question one text agrees) in
          let first = length-map one folded in
          let second = length-map text folded in omega (arith, r, first, second);
      order = by_apart (λ one other. IsBefore (map folded one) (map folded other)) shown (apart_unmap (map folded) IsBefore shown order);
      spelled = λ text h. are.spelled (map folded text) (listed text h);
      least = λ one text h scalars m spelled agrees.
          are.least (map folded one) (map folded text) (listed one h) (text_folded text scalars) (fold_meant question text m) spelled
          (fold_agree question one text agrees);
      cased = cased;
    }

-- ---- what is shown where the grammar is of folded texts
pub folds_shown : (question : Question) (texts : List (List ℕ)) → AreKinds (folded_question question) texts → (text : List ℕ)
    → Contains texts text
    → map folded text ≡ text
folds_shown question texts are text h = in_folds question.grammar text (are.meant text h).grammar

pub folds_each : (texts : List (List ℕ)) → ((text : List ℕ) → In text texts → map folded text ≡ text) → map (map folded) texts ≡ texts
folds_each [] folds = refl
folds_each (text ∷ texts) folds =
    ap (λ t. t ∷ map (map folded) texts) (folds text (inl refl)) ∙ ap (λ l. text ∷ l) (folds_each texts (λ t h. folds t (inr h)))

pub folded_cased : (question : Question) (text : List ℕ) → (first_stage question.grammar).fold ≡ true → map folded text ≡ text
    → IsCased question text
folded_cased question text is folds = λ before rest c e.
    subst (λ b. IsCasedBehind b question (map folded before) c) (sym is) (at before rest c text e folds)
  where
    at : (before rest : List ℕ) (c : ℕ) (text : List ℕ) → text ≡ before ++ (c ∷ rest) → map folded text ≡ text → folded c ≡ c
    at before rest c [] e folds = absurd (no_end before c rest e)
    at [] rest c (d ∷ text) e folds =
        let first : d ≡ c = cc in let same : folded d ≡ d = cc in ap folded (sym first) ∙ same ∙ first
    at (b ∷ before) rest c (d ∷ text) e folds =
        let more : text ≡ before ++ (c ∷ rest) = cc in let same : map folded text ≡ text = cc in at before rest c text more same

pub kinds_folded : (question : Question) (texts : List (List ℕ)) → (first_stage question.grammar).fold ≡ true
    → AreKinds (folded_question question) texts
    → AreKindsFold question texts
kinds_folded question texts is are =
    kinds_fold question texts texts are (folds_each texts (λ text h. folds_shown question texts are text (of_in texts text h)))
    (λ text h. folded_cased question text is (folds_shown question texts are text h))

-- ---- or has other texts too
pub kinds_cased : (question : Question) (asked : Asked) (own : List Pattern) (texts shown : List (List ℕ))
    → (first_stage question.grammar).fold ≡ false
    → machine_at asked ≡ machine_of (folded_question question) → own ≡ (machine_of question).patterns
    → AreKinds (folded_question question) texts
    → map (map folded) shown ≡ texts → ((text : List ℕ) → Contains shown text → IsCasedFor asked own text) → AreKindsFold question shown
kinds_cased question asked own texts shown is same own_is are folds cased =
    kinds_fold question texts shown are folds (λ text h before rest c e.
    subst (λ b. IsCasedBehind b question (map folded before) c) (sym is)
    (subst (λ (m : Machine). IsCasedAt (IsPlace m (map folded before)) m.patterns (machine_of question).patterns c) same
    (subst (λ (l : List Pattern). IsCasedAt (IsPlace (machine_at asked) (map folded before)) (machine_at asked).patterns l c) own_is
    (cased text h before rest c e))))

-- the question as it is asked
abbrev pub question_with : Grammar → List (List Sign) → List (List (List Sign)) → List (List ℕ) → Question
question_with grammar within groups named = record { grammar = grammar; within = within; groups = groups; named = named }

pub map_twice : {A B C : Type 0} (f : B → C) (g : A → B) (xs : List A) → map f (map g xs) ≡ map (λ x. f (g x)) xs
map_twice f g [] = refl
map_twice f g (x ∷ xs) = ap (λ l. f (g x) ∷ l) (map_twice f g xs)

pub groups_twice : (groups : List (Vec Signs))
    → map (map (map (sign_by folded))) (map (λ g. map (signs_of false) g.items) groups) ≡ map (λ g. map (signs_of true) g.items) groups
groups_twice [] = refl
groups_twice (g ∷ groups) =
    ap (λ x. x ∷ map (map (map (sign_by folded))) (map (λ g. map (signs_of false) g.items) groups)) (map_twice (map (sign_by folded)) (signs_of false) g.items)
    ∙ ap (λ l. map (signs_of true) g.items ∷ l) (groups_twice groups)

pub asked_folded : (grammar : Grammar) (within : List Signs) (groups : List (Vec Signs)) (named : List (Bor (List ℕ)))
    → question_in true (folded_grammar grammar) within groups named ≡ folded_question (question_in false grammar within groups named)
asked_folded grammar within groups named =
    let q = question_in false grammar within groups named in
    let w : map (map (sign_by folded)) q.within ≡ map (signs_of true) within = map_twice (map (sign_by folded)) (signs_of false) within in
    let n : map (map folded) q.named ≡ map (λ t. characters_in true (chars t.now)) named = map_twice (map folded) (λ (t : Bor (List ℕ)). chars t.now) named in
    let p = question_in true (folded_grammar grammar) within groups named in
    ap (λ l. question_with p.grammar l p.groups p.named) (sym w) ∙ ap (λ l. question_with p.grammar (folded_question q).within l p.named) (sym (groups_twice groups))
    ∙ ap (λ l. question_with p.grammar (folded_question q).within (folded_question q).groups l) (sym n)
