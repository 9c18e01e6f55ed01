-- What a node tells of its text, and which nodes stand for others.
use Rattle.std.proofs.Common.{◌≡◌, ◌↔◌, inl, inr, ℕ, ◌<◌, ◌+◌, Bool, true, false, ◌==◌, not, List, [], ◌∷◌, ◌++◌, filter, refl, sym, ap, ◌∙◌, subst, append-nil, append_assoc, Option, Some, None, is_some, ◌≤◌, length, arith}
use Rattle.std.specs.Char.{IsScalar}
use Rattle.std.specs.List.{Contains, filter_map, flat_map, list_any}
use Rattle.std.specs.List.Sorted.{IsStrictlyIncreasing}
use Rattle.std.specs.Option.{option_and_then, option_map_or}
use Rattle.iam_glob.specs.Glob.{Matches}
use Rattle.iam_glob.specs.declared.sign.Sign.{Sign}
use Rattle.iam_glob.specs.declared.sign.Sign.TheVariants.{Given, One, Any}
use Rattle.iam_kinds.specs.Code.{Leads, SameElements, are_any, first_stage, group_at, is_last_stage, matched_groups, moves_from, moves_of, next_stage, place_at, rest_at, settled_places, stage_number, stepped, waited_at, waited_in, waits_for}
use Rattle.iam_kinds.specs.Kinds.{IsIn}
use Rattle.iam_kinds.specs.Letters.{Stands, begins_with, goes_on, is_other, is_waited}
use Rattle.iam_kinds.specs.States.{Machine, stage_behind}
use Rattle.iam_kinds.specs.Walk.{Describes, Has, HasState, IsAt, IsLive, IsReady, IsSought, StandsFor, completes, key_of, machine_at, place_numbers, query_of, tails_at}
use Rattle.iam_kinds.specs.declared.asked.Asked.{Asked}
use Rattle.iam_kinds.specs.declared.asked.Node.{Node}
use Rattle.iam_kinds.specs.declared.grammar.Stage.{Stage}
use Rattle.iam_kinds.specs.declared.table.Pattern.{Pattern}
use Rattle.iam_kinds.specs.declared.table.Place.{Place}
use Rattle.std.proofs.lemmas.Bool.{eqb-true, eq-eqb}
use Rattle.iam_kinds.proofs.GrammarLemmas.{same_number, same_part}
use Rattle.iam_kinds.proofs.MatchLemmas.{any_more, any_off, any_skip, anys_end, end_anys, given_off, nothing_left, one_off, one_on}
use Rattle.iam_kinds.proofs.Members.{In, in_of, of_in, from_any, in_any, in_map, from_map, not_in_any, in_left, in_right}
use Rattle.iam_kinds.proofs.NodeLemmas.{stage_more}
use Rattle.iam_kinds.proofs.OrderLemmas.{longer}
use Rattle.iam_kinds.proofs.PlaceLemmas.{both}
use Rattle.iam_kinds.proofs.ReachLemmas.{stepped_exactly}

pub in_filter : {A : Type 0} (p : A → Bool) (xs : List A) (x : A) → In x xs → p x ≡ true → In x (filter p xs)
in_filter p [] x h e = absurd h
in_filter {A} p (y ∷ xs) x (inl s) e = let here : p y ≡ true = ap p s ∙ e in rw here (inl s)
in_filter {A} p (y ∷ xs) x (inr h) e = by_test p y xs x (in_filter p xs x h e) (p y) refl
  where
    by_test : (p : A → Bool) (y : A) (xs : List A) (x : A) → In x (filter p xs) → (b : Bool) → p y ≡ b → In x (filter p (y ∷ xs))
    by_test p y xs x h true s = rw s (inr h)
    by_test p y xs x h false s = rw s h

pub from_filter : {A : Type 0} (p : A → Bool) (xs : List A) (x : A) → In x (filter p xs) → In x xs × (p x ≡ true)
from_filter p [] x h = absurd h
from_filter {A} p (y ∷ xs) x h = by_test p y xs x (from_filter p xs x) (p y) refl h
  where
    by_test : (p : A → Bool) (y : A) (xs : List A) (x : A) → (In x (filter p xs) → In x xs × (p x ≡ true)) → (b : Bool) → p y ≡ b
        → In x (filter p (y ∷ xs)) → In x (y ∷ xs) × (p x ≡ true)
    by_test p y xs x later true s h = elim (rw s at h) [
      | inl e ↦ (inl e, sym (ap p e) ∙ s)
      | inr k ↦ let r = later k in (inr r.0, r.1)
    ]
    by_test p y xs x later false s h = let r = later (rw s at h) in (inr r.0, r.1)

pub matched_is : (patterns : List Pattern) (places : List Place) (g : ℕ) → Contains (matched_groups patterns places) g ↔ Leads patterns places g []
matched_is patterns places g = (
  λ h.
      let r = from_map (group_at patterns) (filter (λ k. are_any (rest_at patterns k)) places) g (in_of _ g h) in
      let s = from_filter (λ k. are_any (rest_at patterns k)) places r.0 r.1 in
      (r.0, of_in places r.0 s.0, r.2, anys_end (rest_at patterns r.0) s.1),
  λ l.
      let k = in_filter (λ k. are_any (rest_at patterns k)) places l.0 (in_of places l.0 l.1) (end_anys (rest_at patterns l.0) l.3) in
      of_in _ g (subst (λ n. In n (matched_groups patterns places)) l.2 (in_map (group_at patterns) (filter (λ k. are_any (rest_at patterns k)) places) l.0 k)),
)

-- ---- whether the text is asked about
pub describes : (asked : Asked) (node : Node) (numbers : List ℕ) → IsAt asked node → IsStrictlyIncreasing numbers
    → SameElements numbers (matched_groups asked.table.now.patterns.items node.places.items) → Describes (query_of asked) numbers node.text.items
describes asked node numbers at rising same =
    let t = asked.table.now.patterns.items in record {
      rising = rising;
      groups = λ g.
          let m = matched_is t node.places.items g in
          let a = at.places g [] in (
            λ h. subst (Has (query_of asked) g) (append-nil node.text.items) (a.0 (m.0 ((same g).0 h))),
            λ h. (same g).1 (m.1 (a.1 (subst (Has (query_of asked) g) (sym (append-nil node.text.items)) h))),
          );
    }

pub not_last : (asked : Asked) (node : Node) → IsAt asked node → is_last_stage node.stage ≡ false → ¬ IsSought (query_of asked) node.text.items
not_last asked node at no_end sought =
    let ends : completes [] node.stage ≡ true = (at.stage []).0 (subst (IsIn asked.grammar) (sym (append-nil node.text.items)) sought.fits.grammar) in
    let wrong : false ≡ true = sym no_end ∙ ends in cc

pub named_here : (asked : Asked) (node : Node) → IsAt asked node → Contains (tails_at node) [] → ¬ IsSought (query_of asked) node.text.items
named_here asked node at here sought =
    sought.unnamed (subst (λ (x : List ℕ). Contains (query_of asked).named x) (append-nil node.text.items) ((at.tails []).1 here))

pub lacks_group : (asked : Asked) (node : Node) (numbers : List ℕ) → Describes (query_of asked) numbers node.text.items
    → (((g : ℕ) → g < asked.within → Contains numbers g) → ⊥) → ¬ IsSought (query_of asked) node.text.items
lacks_group asked node numbers described none sought = none (λ g below. (described.groups g).1 (sought.fits.within g below))

pub is_sought : (asked : Asked) (node : Node) (numbers : List ℕ) → IsAt asked node → is_last_stage node.stage ≡ true → (¬ Contains (tails_at node) [])
    → Describes (query_of asked) numbers node.text.items → ((g : ℕ) → g < asked.within → Contains numbers g) → IsSought (query_of asked) node.text.items
is_sought asked node numbers at last free described all = record {
  fits = record {
    grammar = subst (IsIn asked.grammar) (append-nil node.text.items) ((at.stage []).1 last);
    within = λ g below. (described.groups g).0 (all g below);
  };
  unnamed = λ h. free ((at.tails []).0 (subst (λ (x : List ℕ). Contains (query_of asked).named x) (sym (append-nil node.text.items)) h));
}

-- ---- the same state
pub same_places : (xs ys : List Place) → place_numbers xs ≡ place_numbers ys → xs ≡ ys
same_places [] [] e = refl
same_places [] (y ∷ ys) e = absurd (cc)
same_places (x ∷ xs) [] e = absurd (cc)
same_places (x ∷ xs) (y ∷ ys) e =
    let p : x.pattern ≡ y.pattern = cc in
    let a : x.at ≡ y.at = cc in
    let rest : place_numbers xs ≡ place_numbers ys = cc in
    let first : x ≡ y = ap (λ n. place_at n x.at) p ∙ ap (λ n. place_at y.pattern n) a in
    ap (λ z. z ∷ xs) first ∙ ap (λ l. y ∷ l) (same_places xs ys rest)

pub same_key : (one other : Node) → key_of one ≡ key_of other → (one.stage ≡ other.stage) × (one.places.items ≡ other.places.items)
same_key one other key =
    let number : stage_number one.stage ≡ stage_number other.stage = cc in
    let numbers : place_numbers one.places.items ≡ place_numbers other.places.items = cc in
    (same_number one.stage other.stage number, same_places one.places.items other.places.items numbers)

pub same_state : (asked : Asked) (one other : Node) → IsAt asked one → IsAt asked other → key_of one ≡ key_of other → tails_at one ≡ []
    → length one.text.items ≤ length other.text.items → StandsFor asked one.text.items other.text.items
same_state asked one other at at' key free shorter =
    let t = asked.table.now.patterns.items in
    let same = same_key one other key in
    let stage = same.0 in
    let places = same.1 in record {
      grammar = λ w. (
        λ h. (at.stage w).1 (ap (completes w) stage ∙ (at'.stage w).0 h),
        λ h. (at'.stage w).1 (sym (ap (completes w) stage) ∙ (at.stage w).0 h),
      );
      groups = λ g w. (
        λ h. (at.places g w).0 (subst (λ l. Leads t l g w) (sym places) ((at'.places g w).1 h)),
        λ h. (at'.places g w).0 (subst (λ l. Leads t l g w) places ((at.places g w).1 h)),
      );
      named = inl (λ w h. in_of [] w (subst (λ (l : List (List ℕ)). Contains l w) free ((at.tails w).0 h)));
      state = record {
        stage = at'.read ∙ ap Some (sym stage) ∙ sym at.read;
        places = λ k. (
          λ p. (at.placed k).0 (subst (λ l. Contains l k) (sym places) ((at'.placed k).1 p)),
          λ p. (at'.placed k).0 (subst (λ l. Contains l k) places ((at.placed k).1 p)),
        );
      };
      shorter = shorter;
    }

pub stands_itself : (asked : Asked) (text : List ℕ) → StandsFor asked text text
stands_itself asked text = record {
  grammar = λ w. (λ h. h, λ h. h);
  groups = λ g w. (λ h. h, λ h. h);
  named = inr refl;
  state = record { stage = refl; places = λ k. (λ p. p, λ p. p) };
  shorter = omega arith;
}

-- ---- letters that lead to the same
pub same_letter : (signs : List Sign) (c o : ℕ) (w : List ℕ) → ((d : ℕ) → waits_for signs ≡ Some d → d ≡ c → ⊥) → Matches signs (c ∷ w) → Matches signs (o ∷ w)
same_letter [] c o w free m = absurd (nothing_left c w m)
same_letter (Given d ∷ signs) c o w free m = absurd (free d refl (given_off d signs c w m).0)
same_letter (One ∷ signs) c o w free m = one_on signs o w (one_off signs c w m)
same_letter (Any ∷ signs) c o w free m = elim (any_off signs c w m) [
  | inl later ↦ any_skip signs (o ∷ w) (same_letter signs c o w free later)
  | inr stay ↦ any_more signs o w stay
]

pub in_waited : {A : Type 0} (f : A → Option ℕ) (xs : List A) (x : A) (d : ℕ) → In x xs → f x ≡ Some d → In d (filter_map f xs)
in_waited f [] x d h e = absurd h
in_waited {A} f (y ∷ xs) x d (inl s) e = let here : f y ≡ Some d = ap f s ∙ e in rw here (inl refl)
in_waited {A} f (y ∷ xs) x d (inr h) e = by_option f y xs d (in_waited f xs x d h e) (f y) refl
  where
    by_option : (f : A → Option ℕ) (y : A) (xs : List A) (d : ℕ) → In d (filter_map f xs) → (o : Option ℕ) → f y ≡ o → In d (filter_map f (y ∷ xs))
    by_option f y xs d h None s = rw s h
    by_option f y xs d h (Some e) s = rw s (inr h)

pub unwaited : (waited : List ℕ) (c d : ℕ) → is_waited waited c ≡ false → In d waited → d ≡ c → ⊥
unwaited waited c d none h same =
    let not_here : (d == c) ≡ false = not_in_any (λ e. e == c) waited d none h in
    let here : (d == c) ≡ true = eq-eqb d c same in
    let wrong : true ≡ false = sym here ∙ not_here in cc

pub unwaited_part : (part waited : List ℕ) (c : ℕ) → ((d : ℕ) → In d part → In d waited) → is_waited waited c ≡ false → is_waited part c ≡ false
unwaited_part part waited c has none = by_test part waited c has none (is_waited part c) refl
  where
    by_test : (part waited : List ℕ) (c : ℕ) → ((d : ℕ) → In d part → In d waited) → is_waited waited c ≡ false → (b : Bool) → is_waited part c ≡ b → is_waited part c ≡ false
    by_test part waited c has none true e =
        let r = from_any (λ d. d == c) part e in absurd (unwaited waited c r.0 none (has r.0 r.1) (eqb-true r.0 c r.2))
    by_test part waited c has none false e = e

pub leads_other : (patterns : List Pattern) (places : List Place) (waited : List ℕ) (c o g : ℕ) (w : List ℕ)
    → ((d : ℕ) → In d (waited_at patterns places) → In d waited) → is_waited waited c ≡ false
    → Leads patterns places g (c ∷ w) → Leads patterns places g (o ∷ w)
leads_other patterns places waited c o g w has none (k, h, own, m) = (
  k,
  h,
  own,
  same_letter (rest_at patterns k) c o w (λ d waits same.
      unwaited waited c d none (has d (in_waited (λ k. waits_for (rest_at patterns k)) places k d (in_of places k h) waits)) same) m,
)

-- whether a slice has a number
pub number_in : (xs : List ℕ) (x : ℕ) → list_any (λ y. y == x) xs ≡ true → Contains xs x
number_in xs x e =
    let r = from_any (λ y. y == x) xs e in of_in xs x (subst (λ y. In y xs) (eqb-true r.0 x r.2) r.1)

pub number_out : (xs : List ℕ) (x : ℕ) → list_any (λ y. y == x) xs ≡ false → Contains xs x → ⊥
number_out xs x e h =
    let here = in_any (λ y. y == x) xs x (in_of xs x h) (eq-eqb x x refl) in
    let wrong : true ≡ false = sym here ∙ e in cc

pub goes_some : (stage : Stage) (c : ℕ) (w : List ℕ) → completes (c ∷ w) stage ≡ true → is_some (next_stage stage c) ≡ true
goes_some stage c w e = by_option w (next_stage stage c) e
  where
    by_option : (w : List ℕ) (o : Option Stage) → option_map_or (completes w) o false ≡ true → is_some o ≡ true
    by_option w None e = absurd (cc)
    by_option w (Some s) e = refl

pub true_not : (b : Bool) → not b ≡ true → b ≡ false
true_not true e = absurd (cc)
true_not false e = refl

pub free_unnamed : (tails : List (List ℕ)) (o : ℕ) (w : List ℕ) → goes_on tails o ≡ false → Contains tails (o ∷ w) → ⊥
free_unnamed tails o w none h =
    let here = not_in_any (begins_with o) tails (o ∷ w) none (in_of tails (o ∷ w) h) in
    let right : begins_with o (o ∷ w) ≡ true = eq-eqb o o refl in
    let wrong : true ≡ false = sym right ∙ here in cc

-- a letter that nothing waits for leads where any other such letter does
pub same_moves : (p at : ℕ) (signs : List Sign) (c o : ℕ) → ((d : ℕ) → waits_for signs ≡ Some d → d ≡ c → ⊥) → ((d : ℕ) → waits_for signs ≡ Some d → d ≡ o → ⊥)
    → moves_from p at signs c ≡ moves_from p at signs o
same_moves p at [] c o free other = refl
same_moves p at (Given d ∷ signs) c o free other =
    let one : (d == c) ≡ false = unequal d c (free d refl) in
    let two : (d == o) ≡ false = unequal d o (other d refl) in rw (one, two) refl
  where
    unequal : (d c : ℕ) → (d ≡ c → ⊥) → (d == c) ≡ false
    unequal d c differ = by_test d c differ (d == c) refl
      where
        by_test : (d c : ℕ) → (d ≡ c → ⊥) → (b : Bool) → (d == c) ≡ b → (d == c) ≡ false
        by_test d c differ true e = absurd (differ (eqb-true d c e))
        by_test d c differ false e = e
same_moves p at (One ∷ signs) c o free other = refl
same_moves p at (Any ∷ signs) c o free other = ap (λ l. place_at p at ∷ l) (same_moves p (at + 1) signs c o free other)

pub same_stepped : (patterns : List Pattern) (places : List Place) (waited : List ℕ) (c o : ℕ) → ((d : ℕ) → In d (waited_at patterns places) → In d waited)
    → is_waited waited c ≡ false → is_waited waited o ≡ false → stepped patterns places c ≡ stepped patterns places o
same_stepped patterns places waited c o has wc wo =
    ap (settled_places patterns) (moved patterns places c o (λ k h d waits same.
    unwaited waited c d wc (has d (in_waited (λ k. waits_for (rest_at patterns k)) places k d h waits)) same) (λ k h d waits same.
    unwaited waited o d wo (has d (in_waited (λ k. waits_for (rest_at patterns k)) places k d h waits)) same))
  where
    moved : (patterns : List Pattern) (places : List Place) (c o : ℕ)
        → ((k : Place) → In k places → (d : ℕ) → waits_for (rest_at patterns k) ≡ Some d → d ≡ c → ⊥)
        → ((k : Place) → In k places → (d : ℕ) → waits_for (rest_at patterns k) ≡ Some d → d ≡ o → ⊥)
        → flat_map (moves_of patterns c) places ≡ flat_map (moves_of patterns o) places
    moved patterns [] c o free other = refl
    moved patterns (k ∷ places) c o free other =
        ap (λ l. l ++ flat_map (moves_of patterns c) places) (same_moves k.pattern k.at (rest_at patterns k) c o (free k (inl refl)) (other k (inl refl)))
        ∙ ap (λ l. moves_of patterns o k ++ l) (moved patterns places c o (λ k h. free k (inr h)) (λ k h. other k (inr h)))

pub state_on : (machine : Machine) (one two three : List ℕ) → HasState machine one two → HasState machine two three → HasState machine one three
state_on machine one two three s t = record {
  stage = t.stage ∙ s.stage;
  places = λ k. (λ p. (s.places k).0 ((t.places k).0 p), λ p. (t.places k).1 ((s.places k).1 p));
}

-- so the state behind the one is that behind the other
pub other_state : (asked : Asked) (node : Node) (waited : List ℕ) (c o : ℕ) → IsReady asked → IsAt asked node
    → ((d : ℕ) → In d (waited_at asked.table.now.patterns.items node.places.items) → In d waited) → is_waited waited c ≡ false → is_waited waited o ≡ false
    → next_stage node.stage c ≡ next_stage node.stage o
    → HasState (machine_at asked) (node.text.items ++ (o ∷ [])) (node.text.items ++ (c ∷ []))
other_state asked node waited c o ready at has wc wo stage =
    let t = asked.table.now.patterns.items in
    let first = stepped_exactly (machine_at asked) node.text.items node.places.items c ready.table at.places_in at.placed in
    let second = stepped_exactly (machine_at asked) node.text.items node.places.items o ready.table at.places_in at.placed in
    let same = same_stepped t node.places.items waited c o has wc wo in
    let read : (d : ℕ) → stage_behind (node.text.items ++ (d ∷ [])) (first_stage asked.grammar) ≡ next_stage node.stage d =
    λ d. stage_more node.text.items d (first_stage asked.grammar) ∙ ap (option_and_then (λ s. next_stage s d)) at.read in record {
      stage = read c ∙ stage ∙ sym (read o);
      places = λ k. (
        λ p. (second k).0 (subst (λ l. Contains l k) same ((first k).1 p)),
        λ p. (first k).0 (subst (λ l. Contains l k) (sym same) ((second k).1 p)),
      );
    }

-- a letter is tried, or one in its place leads to the same, behind which nothing is named
pub tries : (asked : Asked) (node : Node) (waited letters : List ℕ) → IsReady asked → IsAt asked node
    → ((d : ℕ) → In d (waited_at asked.table.now.patterns.items node.places.items ++ waited_in node.stage.part) → In d waited)
    → ((c : ℕ) → IsScalar c → is_some (next_stage node.stage c) ≡ true → Stands node.stage waited (tails_at node) letters c)
    → (c : ℕ) → IsScalar c → IsLive (query_of asked) (node.text.items ++ (c ∷ []))
    → (o : ℕ) × Contains letters o × IsLive (query_of asked) (node.text.items ++ (o ∷ []))
    × ((other : List ℕ) → StandsFor asked other (node.text.items ++ (o ∷ [])) → StandsFor asked other (node.text.items ++ (c ∷ [])))
tries asked node waited letters ready at has stands c scalar live =
    let w = live.grammar.0 in
    let fits = subst (IsIn asked.grammar) (append_assoc node.text.items (c ∷ []) w) live.grammar.1 in
    let goes = goes_some node.stage c w ((at.stage (c ∷ w)).0 fits) in
    elim (stands c scalar goes) [
      | inl h ↦ (c, h, live, λ other s. s)
      | inr r ↦
          let o = r.1.0 in
          let free = both (is_other node.stage waited o) (not (goes_on (tails_at node) o)) r.1.2 in
          let other = both (is_some (next_stage node.stage o)) (not (is_waited waited o)) free.0 in
          instead asked node waited c o ready at has goes other.0 r.0 (true_not (is_waited waited o) other.1) (true_not (goes_on (tails_at node) o) free.1) letters r.1.1 live
    ]
  where
    instead : (asked : Asked) (node : Node) (waited : List ℕ) (c o : ℕ) → IsReady asked → IsAt asked node
        → ((d : ℕ) → In d (waited_at asked.table.now.patterns.items node.places.items ++ waited_in node.stage.part) → In d waited)
        → is_some (next_stage node.stage c) ≡ true → is_some (next_stage node.stage o) ≡ true → is_waited waited c ≡ false → is_waited waited o ≡ false
        → goes_on (tails_at node) o ≡ false → (letters : List ℕ) → Contains letters o → IsLive (query_of asked) (node.text.items ++ (c ∷ []))
        → (o : ℕ) × Contains letters o × IsLive (query_of asked) (node.text.items ++ (o ∷ []))
        × ((other : List ℕ) → StandsFor asked other (node.text.items ++ (o ∷ [])) → StandsFor asked other (node.text.items ++ (c ∷ [])))
    instead asked node waited c o ready at has gc go wc wo free letters h live =
        let t = asked.table.now.patterns.items in
        let u = node.text.items in
        let places = waited_at t node.places.items in
        let at_places : (d : ℕ) → In d places → In d waited = λ d k. has d (in_left places (waited_in node.stage.part) d k) in
        let not_waited : (x : ℕ) → is_waited waited x ≡ false → is_waited (waited_in node.stage.part) x ≡ false =
        λ x none. unwaited_part (waited_in node.stage.part) waited x (λ d k. has d (in_right places (waited_in node.stage.part) d k)) none in
        let stage = same_part node.stage.part node.stage.fold c o gc go (not_waited c wc) (not_waited o wo) in
        let on : (v : List ℕ) → completes (c ∷ v) node.stage ≡ completes (o ∷ v) node.stage = λ v. ap (λ s. option_map_or (completes v) s false) stage in
        let grammar : (v : List ℕ) → IsIn asked.grammar (u ++ (c ∷ v)) ↔ IsIn asked.grammar (u ++ (o ∷ v)) =
        λ v. (
          λ k. (at.stage (o ∷ v)).1 (sym (on v) ∙ (at.stage (c ∷ v)).0 k),
          λ k. (at.stage (c ∷ v)).1 (on v ∙ (at.stage (o ∷ v)).0 k),
        ) in
        let groups : (g : ℕ) (v : List ℕ) → Has (query_of asked) g (u ++ (c ∷ v)) ↔ Has (query_of asked) g (u ++ (o ∷ v)) =
        λ g v. (
          λ k. (at.places g (o ∷ v)).0 (leads_other t node.places.items waited c o g v at_places wc ((at.places g (c ∷ v)).1 k)),
          λ k. (at.places g (c ∷ v)).0 (leads_other t node.places.items waited o c g v at_places wo ((at.places g (o ∷ v)).1 k)),
        ) in
        let joined : (x : ℕ) (v : List ℕ) → (u ++ (x ∷ [])) ++ v ≡ u ++ (x ∷ v) = λ x v. append_assoc u (x ∷ []) v in (
          o,
          h,
          record {
            grammar =
                let (w, k) = live.grammar in
                (w, subst (IsIn asked.grammar) (sym (joined o w)) ((grammar w).0 (subst (IsIn asked.grammar) (joined c w) k)));
            within = λ g below.
                let (w, k) = live.within g below in
                (w, subst (Has (query_of asked) g) (sym (joined o w)) ((groups g w).0 (subst (Has (query_of asked) g) (joined c w) k)));
          },
          λ other s. record {
            grammar = λ v. (
              λ k. (s.grammar v).0 (subst (IsIn asked.grammar) (sym (joined o v)) ((grammar v).0 (subst (IsIn asked.grammar) (joined c v) k))),
              λ k. subst (IsIn asked.grammar) (sym (joined c v)) ((grammar v).1 (subst (IsIn asked.grammar) (joined o v) ((s.grammar v).1 k))),
            );
            groups = λ g v. (
              λ k. (s.groups g v).0 (subst (Has (query_of asked) g) (sym (joined o v)) ((groups g v).0 (subst (Has (query_of asked) g) (joined c v) k))),
              λ k. subst (Has (query_of asked) g) (sym (joined c v)) ((groups g v).1 (subst (Has (query_of asked) g) (joined o v) ((s.groups g v).1 k))),
            );
            named = inl (elim s.named [
              | inl f ↦ f
              | inr same ↦ (λ v k.
                  free_unnamed (tails_at node) o v free ((at.tails (o ∷ v)).0
                  (subst (λ (x : List ℕ). Contains (query_of asked).named x) (joined o v)
                  (subst (λ (x : List ℕ). Contains (query_of asked).named (x ++ v)) same k))))
            ]);
            state = state_on (machine_at asked) other (u ++ (o ∷ [])) (u ++ (c ∷ [])) s.state
                (other_state asked node waited c o ready at at_places wc wo stage);
            shorter = omega (arith, s.shorter, longer u o, longer u c);
          },
        )
