-- A node and the nodes behind it.
use Rattle.std.proofs.Common.{◌≡◌, inl, inr, ℕ, zero, suc, ◌<◌, ◌≤◌, ◌+◌, ◌-◌, Bool, true, false, ◌==◌, List, [], ◌∷◌, ◌++◌, length, drop, refl, sym, ap, ◌∙◌, subst, arith, append_assoc, Option, Some, None}
use Rattle.std.specs.List.{Contains, slice_get}
use Rattle.std.specs.Char.{IsScalar}
use Rattle.std.specs.Option.{option_and_then, option_map_or}
use Rattle.std.proofs.lemmas.List.Elements.{Contains-push_cases}
use Rattle.iam_glob.specs.Glob.{Matches}
use Rattle.iam_glob.specs.declared.sign.Sign.{Sign}
use Rattle.iam_glob.specs.declared.sign.Sign.TheVariants.{Given, One, Any}
use Rattle.iam_kinds.specs.Code.{AreIn, Leads, SameElements, first_stage, stage_at, group_at, has_group, next_stage, place_at, rest_at, settled_places, starts_from, stepped}
use Rattle.iam_kinds.specs.Kinds.{IsIn}
use Rattle.iam_kinds.specs.Letters.{tails_of}
use Rattle.iam_kinds.specs.Places.{IsRising}
use Rattle.iam_kinds.specs.States.{Machine, stage_behind}
use Rattle.iam_kinds.specs.Walk.{Has, IsAt, IsLive, IsReady, IsSpelledFor, IsTriedBehind, completes, query_of, machine_at, tails_at}
use Rattle.iam_kinds.specs.declared.asked.Asked.{Asked}
use Rattle.iam_kinds.specs.declared.asked.Node.{Node}
use Rattle.iam_kinds.specs.declared.grammar.Part.{Part}
use Rattle.iam_kinds.specs.declared.grammar.Part.TheVariants.{Anywhere, Start, Service, Colon, Name}
use Rattle.iam_kinds.specs.declared.grammar.Stage.{Stage}
use Rattle.iam_kinds.specs.declared.table.Pattern.{Pattern}
use Rattle.iam_kinds.specs.declared.table.Place.{Place}
use Rattle.std.proofs.lemmas.Bool.{eqb-true, eq-eqb}
use Rattle.iam_kinds.proofs.GrammarLemmas.{started}
use Rattle.iam_kinds.proofs.MatchLemmas.{any_skip, anys_end, given_on, in_same, one_on, leads_same, leads_settled, leads_stepped, settled_in, settled_leads}
use Rattle.iam_kinds.proofs.Members.{In, in_of, of_in, in_any, from_any}
use Rattle.iam_kinds.proofs.ReachLemmas.{AreExactly, starts_exactly, stepped_exactly}
use Rattle.iam_kinds.proofs.SpelledLemmas.{each_more, each_none}
use Rattle.iam_kinds.proofs.StepLemmas.{from_starts, in_starts, moves_in, starts_in}

pub turn : {A : Type 0} (xs ys : List A) → SameElements xs ys → SameElements ys xs
turn xs ys same = λ x. ((same x).1, (same x).0)

-- what is left of the named texts behind a letter
pub tails_to : (c : ℕ) (tails : List (List ℕ)) (w : List ℕ) → In (c ∷ w) tails → In w (tails_of c tails)
tails_to c [] w h = absurd h
tails_to c ([] ∷ tails) w (inl e) = absurd (let wrong : ⊥ = cc in wrong)
tails_to c ([] ∷ tails) w (inr h) = tails_to c tails w h
tails_to c ((d ∷ text) ∷ tails) w h = by_test c d text tails w (tails_to c tails w) (d == c) refl h
  where
    by_test : (c d : ℕ) (text : List ℕ) (tails : List (List ℕ)) (w : List ℕ) → (In (c ∷ w) tails → In w (tails_of c tails))
        → (b : Bool) → (d == c) ≡ b → In (c ∷ w) ((d ∷ text) ∷ tails) → In w (tails_of c ((d ∷ text) ∷ tails))
    by_test c d text tails w later true s (inl e) = rw s (inl (let same : text ≡ w = cc in same))
    by_test c d text tails w later true s (inr h) = rw s (inr (later h))
    by_test c d text tails w later false s (inl e) =
        let same : d ≡ c = cc in let right = eq-eqb d c same in let wrong : true ≡ false = sym right ∙ s in absurd (cc)
    by_test c d text tails w later false s (inr h) = rw s (later h)

pub tails_from : (c : ℕ) (tails : List (List ℕ)) (w : List ℕ) → In w (tails_of c tails) → In (c ∷ w) tails
tails_from c [] w h = absurd h
tails_from c ([] ∷ tails) w h = inr (tails_from c tails w h)
tails_from c ((d ∷ text) ∷ tails) w h = by_test c d text tails w (tails_from c tails w) (d == c) refl h
  where
    by_test : (c d : ℕ) (text : List ℕ) (tails : List (List ℕ)) (w : List ℕ) → (In w (tails_of c tails) → In (c ∷ w) tails)
        → (b : Bool) → (d == c) ≡ b → In w (tails_of c ((d ∷ text) ∷ tails)) → In (c ∷ w) ((d ∷ text) ∷ tails)
    by_test c d text tails w later true s h = elim (rw s at h) [
      | inl e ↦ inl (let same : d ≡ c = eqb-true d c s in let rest : text ≡ w = e in cc)
      | inr h ↦ inr (later h)
    ]
    by_test c d text tails w later false s h = inr (later (rw s at h))

-- ---- the empty text
pub element : {A : Type 0} (xs : List A) (i : ℕ) → i < length xs → (x : A) × (slice_get xs i ≡ Some x)
element [] i below = absurd (omega arith)
element (x ∷ xs) zero below = (x, refl)
element (x ∷ xs) (suc i) below = element xs i (omega arith)

pub in_drop : {A : Type 0} (xs : List A) (first i : ℕ) (x : A) → first ≤ i → slice_get xs i ≡ Some x → In x (drop first xs)
in_drop [] first i x behind e = absurd (let wrong : ⊥ = cc in wrong)
in_drop (y ∷ xs) zero zero x behind e = inl (let same : y ≡ x = cc in same)
in_drop (y ∷ xs) zero (suc i) x behind e = inr (in_drop xs zero i x (omega arith) e)
in_drop (y ∷ xs) (suc first) zero x behind e = absurd (omega arith)
in_drop (y ∷ xs) (suc first) (suc i) x behind e = in_drop xs first i x (omega arith) e

pub from_drop : {A : Type 0} (xs : List A) (first : ℕ) (x : A) → In x (drop first xs)
    → (i : ℕ) × (first ≤ i) × (i < length xs) × (slice_get xs i ≡ Some x)
from_drop [] zero x h = absurd h
from_drop [] (suc first) x h = absurd h
from_drop (y ∷ xs) zero x (inl e) = (0, omega arith, omega arith, ap Some e)
from_drop (y ∷ xs) zero x (inr h) =
    let r = from_drop xs zero x h in (suc r.0, omega arith, (let b : r.0 < length xs = r.2 in omega arith), r.3)
from_drop (y ∷ xs) (suc first) x h =
    let r = from_drop xs first x h in (suc r.0, (let b : first ≤ r.0 = r.1 in omega arith), (let b : r.0 < length xs = r.2 in omega arith), r.3)

pub starts_lead : (patterns : List Pattern) (count g : ℕ) (w : List ℕ) → count ≤ length patterns
    → Leads patterns (starts_from count (length patterns - count)) g w
    → (p : Pattern) × Contains (drop count patterns) p × (p.group ≡ g) × Matches p.signs w
starts_lead patterns count g w fits (k, h, own, m) =
    let r = from_starts count (length patterns - count) k (in_of _ k h) in
    let high : k.pattern < count + (length patterns - count) = r.1 in
    let p = element patterns k.pattern (omega arith) in
    let here : group_at patterns k ≡ p.0.group = ap (λ o. option_map_or (λ (q : Pattern). q.group) o 0) p.1 in
    let first : k.at ≡ 0 = ap (λ (j : Place). j.at) r.2 in
    let left : rest_at patterns k ≡ p.0.signs =
    ap (λ o. option_map_or (λ (q : Pattern). drop k.at q.signs) o []) p.1 ∙ ap (λ n. drop n p.0.signs) first in
    (p.0, of_in _ p.0 (in_drop patterns count k.pattern p.0 r.0 p.1), sym here ∙ own, subst (λ (s : List Sign). Matches s w) left m)

pub leads_start : (patterns : List Pattern) (count g : ℕ) (w : List ℕ) → count ≤ length patterns
    → (p : Pattern) × Contains (drop count patterns) p × (p.group ≡ g) × Matches p.signs w
    → Leads patterns (starts_from count (length patterns - count)) g w
leads_start patterns count g w fits (p, h, own, m) =
    let r = from_drop patterns count p (in_of _ p h) in
    let low : count ≤ r.0 = r.1 in
    let high : r.0 < length patterns = r.2 in
    let here : group_at patterns (place_at r.0 0) ≡ p.group = ap (λ o. option_map_or (λ (q : Pattern). q.group) o 0) r.3 in
    let left : rest_at patterns (place_at r.0 0) ≡ p.signs = ap (λ o. option_map_or (λ (q : Pattern). q.signs) o []) r.3 in
    (place_at r.0 0, of_in _ _ (in_starts count (length patterns - count) r.0 low (omega arith)), here ∙ own, subst (λ (s : List Sign). Matches s w) (sym left) m)

-- some text is matched, and some characters complete a text of the grammar
pub some_text : (signs : List Sign) → (w : List ℕ) × Matches signs w
some_text [] = ([], anys_end [] refl)
some_text (Given d ∷ signs) = let r = some_text signs in (d ∷ r.0, given_on d signs r.0 r.1)
some_text (One ∷ signs) = let r = some_text signs in (97 ∷ r.0, one_on signs 97 r.0 r.1)
some_text (Any ∷ signs) = let r = some_text signs in (r.0, any_skip signs r.0 r.1)

pub some_end : (stage : Stage) → (w : List ℕ) × (completes w stage ≡ true)
some_end stage = by_part stage.part stage.fold
  where
    by_part : (part : Part) (fold : Bool) → (w : List ℕ) × (completes w (stage_at part fold) ≡ true)
    by_part Anywhere fold = ([], refl)
    by_part Start true = (97 ∷ 58 ∷ 97 ∷ [], refl)
    by_part Start false = (97 ∷ 58 ∷ 97 ∷ [], refl)
    by_part Service true = (58 ∷ 97 ∷ [], refl)
    by_part Service false = (58 ∷ 97 ∷ [], refl)
    by_part Colon true = (97 ∷ [], refl)
    by_part Colon false = (97 ∷ [], refl)
    by_part Name fold = ([], refl)

pub stage_more : (text : List ℕ) (c : ℕ) (stage : Stage)
    → stage_behind (text ++ (c ∷ [])) stage ≡ option_and_then (λ s. next_stage s c) (stage_behind text stage)
stage_more [] c stage = by_option (next_stage stage c)
  where
    by_option : (o : Option Stage) → option_and_then (stage_behind []) o ≡ o
    by_option None = refl
    by_option (Some s) = refl
stage_more (d ∷ text) c stage = by_option text c (next_stage stage d) (λ s. stage_more text c s)
  where
    by_option : (text : List ℕ) (c : ℕ) (o : Option Stage)
        → ((s : Stage) → stage_behind (text ++ (c ∷ [])) s ≡ option_and_then (λ s. next_stage s c) (stage_behind text s))
        → option_and_then (stage_behind (text ++ (c ∷ []))) o ≡ option_and_then (λ s. next_stage s c) (option_and_then (stage_behind text) o)
    by_option text c None later = refl
    by_option text c (Some s) later = later s

pub same_exactly : (machine : Machine) (text : List ℕ) (xs ys : List Place) → SameElements xs ys → AreExactly machine text ys
    → AreExactly machine text xs
same_exactly machine text xs ys same exact = λ k. (λ h. (exact k).0 ((same k).0 h), λ p. (same k).1 ((exact k).1 p))

-- the places where the patterns begin, and those behind one more character, are those of the state
pub starts_placed : (asked : Asked) (places : List Place) → IsReady asked
    → SameElements places (settled_places asked.table.now.patterns.items (starts_from asked.count (length asked.table.now.patterns.items - asked.count)))
    → AreIn asked.table.now.patterns.items places × AreExactly (machine_at asked) [] places
starts_placed asked places ready same =
    let t = asked.table.now.patterns.items in
    let starts = starts_from asked.count (length t - asked.count) in
    let counted : asked.count ≤ length t = ready.count in
    let within = starts_in t asked.count (length t - asked.count) (omega arith) in (
      in_same t places (settled_places t starts) same (settled_in t starts ready.table within),
      same_exactly (machine_at asked) [] places (settled_places t starts) same (starts_exactly (machine_at asked) ready.table counted),
    )

pub step_placed : (asked : Asked) (text : List ℕ) (places next : List Place) (c : ℕ) → IsReady asked
    → AreIn asked.table.now.patterns.items places
    → AreExactly (machine_at asked) text places → SameElements next (stepped asked.table.now.patterns.items places c)
    → AreIn asked.table.now.patterns.items next × AreExactly (machine_at asked) (text ++ (c ∷ [])) next
step_placed asked text places next c ready within exact same =
    let t = asked.table.now.patterns.items in (
      in_same t next (stepped t places c) same (settled_in t _ ready.table (moves_in t places c within)),
      same_exactly (machine_at asked) (text ++ (c ∷ [])) next (stepped t places c) same
          (stepped_exactly (machine_at asked) text places c ready.table within exact),
    )

pub root_is : (asked : Asked) (node : Node) → IsReady asked → node.text.items ≡ [] → node.stage ≡ first_stage asked.grammar
    → IsRising node.places.items
    → SameElements node.places.items (settled_places asked.table.now.patterns.items (starts_from asked.count (length asked.table.now.patterns.items - asked.count)))
    → tails_at node ≡ (query_of asked).named → IsAt asked node
root_is asked node ready empty stage rising same named =
    let t = asked.table.now.patterns.items in
    let starts = starts_from asked.count (length t - asked.count) in
    let counted : asked.count ≤ length t = ready.count in
    let within = starts_in t asked.count (length t - asked.count) (omega arith) in
    let text : (w : List ℕ) → node.text.items ++ w ≡ w = λ w. ap (λ l. l ++ w) empty in record {
      stage = λ w.
          let s = started asked.grammar w in (
            λ h. ap (completes w) stage ∙ s.0 (subst (IsIn asked.grammar) (text w) h),
            λ e. subst (IsIn asked.grammar) (sym (text w)) (s.1 (ap (completes w) (sym stage) ∙ e)),
          );
      places_in = (starts_placed asked node.places.items ready same).0;
      places = λ g w. (
        λ l. subst (Has (query_of asked) g) (sym (text w)) (starts_lead t asked.count g w counted
            (settled_leads t starts g w ready.table within (leads_same t node.places.items (settled_places t starts) g w same l))),
        λ h. leads_same t (settled_places t starts) node.places.items g w (turn _ _ same)
            (leads_settled t starts g w ready.table within (leads_start t asked.count g w counted (subst (Has (query_of asked) g) (text w) h))),
      );
      tails = λ w. (
        λ h. subst (λ (l : List (List ℕ)). Contains l w) (sym named) (subst (λ (x : List ℕ). Contains (query_of asked).named x) (text w) h),
        λ h. subst (λ (x : List ℕ). Contains (query_of asked).named x) (sym (text w)) (subst (λ (l : List (List ℕ)). Contains l w) named h),
      );
      characters = λ c h. absurd (in_of [] c (subst (λ (l : List ℕ). Contains l c) empty h));
      live = record {
        grammar =
            let e = some_end (first_stage asked.grammar) in
            (e.0, subst (IsIn asked.grammar) (sym (text e.0)) ((started asked.grammar e.0).1 e.1));
        within = λ g below.
            let p = ready.within g below in
            let m = some_text p.0.signs in
            (m.0, subst (Has (query_of asked) g) (sym (text m.0)) (p.0, p.1, p.2, m.1));
      };
      read = ap (λ l. stage_behind l (first_stage asked.grammar)) empty ∙ ap Some (sym stage);
      rising = rising;
      placed =
          subst (λ l. AreExactly (machine_at asked) l node.places.items) (sym empty) (starts_placed asked node.places.items ready same).1;
      spelled = each_none (IsTriedBehind asked) node.text.items empty;
    }

-- ---- one letter more
pub child_is : (asked : Asked) (node child : Node) (c : ℕ) → IsReady asked → IsAt asked node
    → child.text.items ≡ node.text.items ++ (c ∷ [])
    → IsScalar c → next_stage node.stage c ≡ Some child.stage → IsRising child.places.items
    → SameElements child.places.items (stepped asked.table.now.patterns.items node.places.items c)
    → ((g : ℕ) → g < asked.within → has_group asked.table.now.patterns.items child.places.items g ≡ true)
    → tails_at child ≡ tails_of c (tails_at node) → IsTriedBehind asked node.text.items c → IsAt asked child
child_is asked node child c ready at text scalar stage rising same all tails letter =
    let t = asked.table.now.patterns.items in
    let longer : (w : List ℕ) → child.text.items ++ w ≡ node.text.items ++ (c ∷ w) =
    λ w. ap (λ l. l ++ w) text ∙ append_assoc node.text.items (c ∷ []) w in
    let behind : (w : List ℕ) → completes (c ∷ w) node.stage ≡ completes w child.stage = λ w. ap (λ o. option_map_or (completes w) o false) stage in
    let is_in : (w : List ℕ) → completes w child.stage ≡ true → IsIn asked.grammar (child.text.items ++ w) =
    λ w e. subst (IsIn asked.grammar) (sym (longer w)) ((at.stage (c ∷ w)).1 (behind w ∙ e)) in
    let has : (g : ℕ) (w : List ℕ) → Leads t child.places.items g w → Has (query_of asked) g (child.text.items ++ w) =
    λ g w l.
    let step = leads_stepped t node.places.items c g w ready.table at.places_in in
    subst (Has (query_of asked) g) (sym (longer w)) ((at.places g (c ∷ w)).0 (step.1 (leads_same t _ _ g w same l))) in record {
      stage = λ w. (λ h. sym (behind w) ∙ (at.stage (c ∷ w)).0 (subst (IsIn asked.grammar) (longer w) h), is_in w);
      places_in = (step_placed asked node.text.items node.places.items child.places.items c ready at.places_in at.placed same).0;
      places = λ g w.
          let step = leads_stepped t node.places.items c g w ready.table at.places_in in (
            has g w,
            λ h. leads_same t _ _ g w (turn _ _ same) (step.0 ((at.places g (c ∷ w)).1 (subst (Has (query_of asked) g) (longer w) h))),
          );
      tails = λ w. (
        λ h. subst (λ (l : List (List ℕ)). Contains l w) (sym tails) (of_in _ w (tails_to c (tails_at node) w
            (in_of _ (c ∷ w) ((at.tails (c ∷ w)).0 (subst (λ (x : List ℕ). Contains (query_of asked).named x) (longer w) h))))),
        λ h. subst (λ (x : List ℕ). Contains (query_of asked).named x) (sym (longer w)) ((at.tails (c ∷ w)).1 (of_in _ (c ∷ w)
            (tails_from c (tails_at node) w (in_of _ w (subst (λ (l : List (List ℕ)). Contains l w) tails h))))),
      );
      characters = λ d h. elim (Contains-push_cases node.text.items c d (subst (λ (l : List ℕ). Contains l d) text h)) [
        | inl o ↦ at.characters d o
        | inr e ↦ subst IsScalar e scalar
      ];
      live = record {
        grammar = (let e = some_end child.stage in (e.0, is_in e.0 e.1));
        within = λ g below.
            let k = from_any (λ k. group_at t k == g) child.places.items (all g below) in
            let m = some_text (rest_at t k.0) in
            (m.0, has g m.0 (k.0, of_in child.places.items k.0 k.1, eqb-true (group_at t k.0) g k.2, m.1));
      };
      read =
          ap (λ l. stage_behind l (first_stage asked.grammar)) text ∙ stage_more node.text.items c (first_stage asked.grammar)
          ∙ ap (option_and_then (λ s. next_stage s c)) at.read ∙ stage;
      rising = rising;
      placed =
          subst (λ l. AreExactly (machine_at asked) l child.places.items) (sym text)
          (step_placed asked node.text.items node.places.items child.places.items c ready at.places_in at.placed same).1;
      spelled = subst (IsSpelledFor asked) (sym text) (each_more (IsTriedBehind asked) node.text.items c at.spelled letter);
    }

-- no text goes on with a letter that the grammar does not have there
pub no_stage : (asked : Asked) (node : Node) (c : ℕ) → IsAt asked node → next_stage node.stage c ≡ None
    → ¬ IsLive (query_of asked) (node.text.items ++ (c ∷ []))
no_stage asked node c at none live =
    let w = live.grammar.0 in
    let fits = subst (IsIn asked.grammar) (append_assoc node.text.items (c ∷ []) w) live.grammar.1 in
    let goes : completes (c ∷ w) node.stage ≡ true = (at.stage (c ∷ w)).0 fits in
    let wrong : false ≡ true = sym (ap (λ o. option_map_or (completes w) o false) none) ∙ goes in cc

-- or behind which a group that has to match has no place
pub no_place : (asked : Asked) (node : Node) (places : List Place) (c : ℕ) → IsReady asked → IsAt asked node
    → SameElements places (stepped asked.table.now.patterns.items node.places.items c)
    → (((g : ℕ) → g < asked.within → has_group asked.table.now.patterns.items places g ≡ true) → ⊥)
    → ¬ IsLive (query_of asked) (node.text.items ++ (c ∷ []))
no_place asked node places c ready at same none live =
    let t = asked.table.now.patterns.items in
    none (λ g below.
    let (w, h) = live.within g below in
    let has = subst (Has (query_of asked) g) (append_assoc node.text.items (c ∷ []) w) h in
    let step = leads_stepped t node.places.items c g w ready.table at.places_in in
    let l = leads_same t _ places g w (turn _ _ same) (step.0 ((at.places g (c ∷ w)).1 has)) in
    in_any (λ k. group_at t k == g) places l.0 (in_of places l.0 l.1) (eq-eqb (group_at t l.0) g l.2))
