-- What a walk keeps from step to step.
use Rattle.std.proofs.Common.{◌≡◌, ◌↔◌, ◌⊎◌, inl, inr, ℕ, zero, suc, ◌<◌, ◌≤◌, Bool, true, false, List, [], ◌∷◌, ◌++◌, length, map, get_or, refl, sym, ap, ◌∙◌, subst, arith, append-nil, append_assoc, Some}
use Rattle.std.specs.Char.{IsScalar}
use Rattle.std.specs.List.{AllPairs, Contains, slice_get}
use Rattle.std.proofs.lemmas.List.Elements.{Contains-append_left, Contains-get_or, Contains-push, Contains-push_cases}
use Rattle.std.proofs.lemmas.List.Quantifiers.{all_pairs_push}
use Rattle.iam_kinds.specs.Kinds.{IsBefore, IsIn, IsText}
use Rattle.iam_kinds.specs.Lists.{lists_in}
use Rattle.iam_kinds.specs.Walk.{Alike, AreLetters, AreTexts, Describes, Fits, Grows, Has, IsAt, IsBelow, IsCovered, IsExpandedAt, IsLive, IsMet, IsMetFirst, IsNotAfter, IsReady, IsSpelledFor, IsSought, IsTried, IsWalk, Query, StandsFor, StaysBelow, StaysBelowBehind, TriesAll, machine_at, query_of, shown_in}
use Rattle.iam_kinds.specs.declared.asked.Asked.{Asked}
use Rattle.iam_kinds.specs.declared.asked.Node.{Node}
use Rattle.iam_kinds.specs.declared.walk.Walk.{Walk}
use Rattle.iam_kinds.proofs.Members.{in_of, of_in}
use Rattle.iam_kinds.proofs.SetLemmas.{same_numbers}
use Rattle.std.proofs.Common.{Bor, is_some, length-append}
use Rattle.std.specs.Bool.{OnTrue}
use Rattle.std.specs.Result.{IfOk}
use Rattle.std.specs.declared.result.Result.{Result}
use Rattle.std.specs.declared.result.Result.TheVariants.{Ok, Err}
use Rattle.std.specs.Option.{option_and_then}
use Rattle.iam_kinds.specs.Code.{SameElements, first_stage, next_stage, waited_at, waited_in}
use Rattle.iam_kinds.specs.Letters.{Stands}
use Rattle.iam_kinds.proofs.NodeLemmas.{element, stage_more}
use Rattle.iam_kinds.proofs.OrderLemmas.{before_on, before_trans, longer, not_after_length}
use Rattle.iam_kinds.proofs.PlaceLemmas.{get_or_any}
use Rattle.iam_kinds.proofs.ReachLemmas.{places_on}
use Rattle.std.specs.List.Sorted.{IsStrictlyIncreasing}
use Rattle.std.proofs.lemmas.List.Kept.{AllPairs-from_increasing}
use Rattle.std.proofs.Common.{◌+◌, length-take-le, take}
use Rattle.std.proofs.lemmas.List.{get_or-take}
use Rattle.iam_kinds.proofs.StateLemmas.{stands_itself, state_on, tries}

pub slice_at : {A : Type 0} (xs : List A) (i : ℕ) (x d : A) → slice_get xs i ≡ Some x → get_or xs i d ≡ x
slice_at [] i x d e = absurd (cc)
slice_at (y ∷ xs) zero x d e = let same : y ≡ x = cc in same
slice_at (y ∷ xs) (suc i) x d e = slice_at xs i x d e

pub slice_below : {A : Type 0} (xs : List A) (i : ℕ) (x : A) → slice_get xs i ≡ Some x → i < length xs
slice_below [] i x e = absurd (cc)
slice_below (y ∷ xs) zero x e = omega arith
slice_below (y ∷ xs) (suc i) x e = let b : i < length xs = slice_below xs i x e in omega arith

pub slice_in : {A : Type 0} (xs : List A) (i : ℕ) (x : A) → slice_get xs i ≡ Some x → Contains xs x
slice_in xs i x e = (i, slice_below xs i x e, slice_at xs i x x e)

pub slice_more : {A : Type 0} (xs ys : List A) (i : ℕ) → i < length xs → slice_get (xs ++ ys) i ≡ slice_get xs i
slice_more [] ys i below = absurd (omega arith)
slice_more (x ∷ xs) ys zero below = refl
slice_more (x ∷ xs) ys (suc i) below = slice_more xs ys i (omega arith)

pub at_slice : {A : Type 0} (xs : List A) (i : ℕ) (x : A) → i < length xs → get_or xs i x ≡ x → slice_get xs i ≡ Some x
at_slice [] i x below e = absurd (omega arith)
at_slice (y ∷ xs) zero x below e = ap Some e
at_slice (y ∷ xs) (suc i) x below e = at_slice xs i x (omega arith) e

-- two texts that one list of numbers describes are alike
pub described_alike : (asked : Asked) (numbers one other : List ℕ) → Describes (query_of asked) numbers one
    → Describes (query_of asked) numbers other
    → Alike (query_of asked) one other
described_alike asked numbers one other d e = λ g. (λ h. (e.groups g).0 ((d.groups g).1 h), λ h. (d.groups g).0 ((e.groups g).1 h))

pub alike_described : (asked : Asked) (numbers others one other : List ℕ) → Describes (query_of asked) numbers one
    → Describes (query_of asked) others other
    → Alike (query_of asked) one other → numbers ≡ others
alike_described asked numbers others one other d e alike =
    same_numbers numbers others d.rising e.rising (λ g h. (e.groups g).1 ((alike g).0 ((d.groups g).0 h))) (λ g h. (d.groups g).1 ((alike g).1 ((e.groups g).0 h)))

-- ---- showing a text
pub shown_before : (asked : Asked) (old new : Walk) (text numbers : List ℕ) → IsWalk asked old → IsBelow old text
    → Contains (lists_in old.kinds) numbers
    → Describes (query_of asked) numbers text → new.nodes.items ≡ old.nodes.items → shown_in new ≡ shown_in old
    → ((list : List ℕ) → Contains (lists_in new.kinds) list ↔ (Contains (lists_in old.kinds) list ⊎ (list ≡ numbers)))
    → IsWalk asked new × IsCovered asked new text
shown_before asked old new text numbers walk below has d nodes shown lists =
    let keep : (x : List ℕ) → Contains (shown_in old) x → Contains (shown_in new) x = λ x h. subst (λ (l : List (List ℕ)). Contains l x) (sym shown) h in
    let back : (x : List ℕ) → Contains (shown_in new) x → Contains (shown_in old) x = λ x h. subst (λ (l : List (List ℕ)). Contains l x) shown h in
    let back_nodes : (x : Node) → Contains new.nodes.items x → Contains old.nodes.items x = λ x h. subst (λ (l : List Node). Contains l x) nodes h in (
      record {
        nodes = λ n h. walk.nodes n (back_nodes n h);
        sought = λ x h. walk.sought x (back x h);
        covered = λ n h s. let r = walk.covered n (back_nodes n h) s in (r.0, keep r.0 r.1, r.2, r.3);
        rising = subst (AllPairs (λ one other. IsBefore one.text.items other.text.items)) (sym nodes) walk.rising;
        order = subst (AllPairs IsBefore) (sym shown) walk.order;
        apart = subst (AllPairs (λ one other. ¬ Alike (query_of asked) one other)) (sym shown) walk.apart;
        few = subst (λ (l : List (List ℕ)). length l ≤ 4096) (sym shown) walk.few;
        spelled = λ x h. walk.spelled x (back x h);
        kinds = λ list h.
            let k = walk.kinds list (elim ((lists list).0 h) [
              | inl o ↦ o
              | inr e ↦ subst (λ (l : List ℕ). Contains (lists_in old.kinds) l) (sym e) has
            ]) in
            (k.0, keep k.0 k.1, k.2);
        described = λ x h. let r = walk.described x (back x h) in (r.0, (lists r.0).1 (inl r.1), r.2);
      },
      (let k = walk.kinds numbers has in (k.0, keep k.0 k.1, described_alike asked numbers k.0 text k.2 d, inr (below.shown k.0 k.1))),
    )

-- a text with other numbers is unlike those that are shown
pub unlike : (asked : Asked) (old : Walk) (text numbers : List ℕ) → IsWalk asked old → (¬ Contains (lists_in old.kinds) numbers)
    → Describes (query_of asked) numbers text → (k : ℕ) (e : List ℕ) → k < length (shown_in old)
    → ¬ Alike (query_of asked) (get_or (shown_in old) k e) text
unlike asked old text numbers walk lacks d = λ k e below alike.
    let r = walk.described (get_or (shown_in old) k e) (Contains-get_or (shown_in old) k e below) in
    let same = alike_described asked r.0 numbers (get_or (shown_in old) k e) text r.2 d alike in
    lacks (subst (λ (l : List ℕ). Contains (lists_in old.kinds) l) same r.1)

pub shown_now : (asked : Asked) (old new : Walk) (text numbers : List ℕ) → IsWalk asked old → IsBelow old text
    → (¬ Contains (lists_in old.kinds) numbers)
    → Describes (query_of asked) numbers text → IsText text × IsSought (query_of asked) text → IsSpelledFor asked text
    → length (shown_in old) < 4096 → new.nodes.items ≡ old.nodes.items → shown_in new ≡ shown_in old ++ (text ∷ [])
    → ((list : List ℕ) → Contains (lists_in new.kinds) list ↔ (Contains (lists_in old.kinds) list ⊎ (list ≡ numbers)))
    → IsWalk asked new × IsCovered asked new text
shown_now asked old new text numbers walk below lacks d s spelled room nodes shown lists =
    let q = query_of asked in
    let keep : (x : List ℕ) → Contains (shown_in old) x → Contains (shown_in new) x =
    λ x h. subst (λ (l : List (List ℕ)). Contains l x) (sym shown) (Contains-append_left (shown_in old) (text ∷ []) x h) in
    let here : Contains (shown_in new) text = subst (λ (l : List (List ℕ)). Contains l text) (sym shown) (Contains-push (shown_in old) text) in
    let back : (x : List ℕ) → Contains (shown_in new) x → Contains (shown_in old) x ⊎ (text ≡ x) =
    λ x h. Contains-push_cases (shown_in old) text x (subst (λ (l : List (List ℕ)). Contains l x) shown h) in
    let back_nodes : (x : Node) → Contains new.nodes.items x → Contains old.nodes.items x = λ x h. subst (λ (l : List Node). Contains l x) nodes h in (
      record {
        nodes = λ n h. walk.nodes n (back_nodes n h);
        sought = λ x h. elim (back x h) [ inl o ↦ walk.sought x o | inr e ↦ subst (λ (x : List ℕ). IsText x × IsSought q x) e s ];
        few = omega (arith, room, ap length shown, length-append (shown_in old) (text ∷ []));
        covered = λ n h s. let r = walk.covered n (back_nodes n h) s in (r.0, keep r.0 r.1, r.2, r.3);
        rising = subst (AllPairs (λ one other. IsBefore one.text.items other.text.items)) (sym nodes) walk.rising;
        order =
            subst (AllPairs IsBefore) (sym shown) (all_pairs_push IsBefore (shown_in old) text walk.order (λ k e less.
            below.shown (get_or (shown_in old) k e) (Contains-get_or (shown_in old) k e less)));
        apart =
            subst (AllPairs (λ one other. ¬ Alike q one other)) (sym shown)
            (all_pairs_push (λ one other. ¬ Alike q one other) (shown_in old) text walk.apart (unlike asked old text numbers walk lacks d));
        spelled = λ x h. elim (back x h) [ inl o ↦ walk.spelled x o | inr e ↦ subst (IsSpelledFor asked) e spelled ];
        kinds = λ list h. elim ((lists list).0 h) [
          | inl o ↦ let r = walk.kinds list o in (r.0, keep r.0 r.1, r.2)
          | inr e ↦ (text, here, subst (λ (l : List ℕ). Describes q l text) (sym e) d)
        ];
        described = λ x h. elim (back x h) [
          | inl o ↦ let r = walk.described x o in (r.0, (lists r.0).1 (inl r.1), r.2)
          | inr e ↦ (numbers, (lists numbers).1 (inr refl), subst (Describes q numbers) e d)
        ];
      },
      (text, here, (λ g. (λ h. h, λ h. h)), inl refl),
    )

-- ---- a node more
pub node_more : (asked : Asked) (old new : Walk) (node : Node) → IsWalk asked old → IsAt asked node
    → ((n : Node) → Contains old.nodes.items n → IsBefore n.text.items node.text.items)
    → (IsSought (query_of asked) node.text.items → IsCovered asked old node.text.items) → new.nodes.items ≡ old.nodes.items ++ (node ∷ [])
    → shown_in new ≡ shown_in old → lists_in new.kinds ≡ lists_in old.kinds → IsWalk asked new
node_more asked old new node walk at below covers nodes shown lists =
    let keep : (x : List ℕ) → Contains (shown_in old) x → Contains (shown_in new) x = λ x h. subst (λ (l : List (List ℕ)). Contains l x) (sym shown) h in
    let back : (x : List ℕ) → Contains (shown_in new) x → Contains (shown_in old) x = λ x h. subst (λ (l : List (List ℕ)). Contains l x) shown h in
    let back_nodes : (x : Node) → Contains new.nodes.items x → Contains old.nodes.items x ⊎ (node ≡ x) =
    λ x h. Contains-push_cases old.nodes.items node x (subst (λ (l : List Node). Contains l x) nodes h) in record {
      nodes = λ n h. elim (back_nodes n h) [ inl o ↦ walk.nodes n o | inr e ↦ subst (IsAt asked) e at ];
      sought = λ x h. walk.sought x (back x h);
      covered = λ n h s. elim (back_nodes n h) [
        | inl o ↦ let r = walk.covered n o s in (r.0, keep r.0 r.1, r.2, r.3)
        | inr e ↦
            let r = covers (subst (λ (n : Node). IsSought (query_of asked) n.text.items) (sym e) s) in
            let p = subst (λ (n : Node). Alike (query_of asked) r.0 n.text.items × IsNotAfter r.0 n.text.items) e (r.2, r.3) in
            (r.0, keep r.0 r.1, p.0, p.1)
      ];
      rising =
          subst (AllPairs (λ one other. IsBefore one.text.items other.text.items)) (sym nodes)
          (all_pairs_push (λ one other. IsBefore one.text.items other.text.items) old.nodes.items node walk.rising (λ k d less.
          below (get_or old.nodes.items k d) (Contains-get_or old.nodes.items k d less)));
      order = subst (AllPairs IsBefore) (sym shown) walk.order;
      apart = subst (AllPairs (λ one other. ¬ Alike (query_of asked) one other)) (sym shown) walk.apart;
      few = subst (λ (l : List (List ℕ)). length l ≤ 4096) (sym shown) walk.few;
      spelled = λ x h. walk.spelled x (back x h);
      kinds = λ list h. let r = walk.kinds list (subst (λ (l : List (List ℕ)). Contains l list) lists h) in (r.0, keep r.0 r.1, r.2);
      described = λ x h. let r = walk.described x (back x h) in (r.0, subst (λ (l : List (List ℕ)). Contains l r.0) (sym lists) r.1, r.2);
    }

-- what is below stays below where a node came
pub stays_below : (old new : Walk) (node : Node) → new.nodes.items ≡ old.nodes.items ++ (node ∷ [])
    → ((shown : List ℕ) → Contains (shown_in new) shown → Contains (shown_in old) shown ⊎ (node.text.items ≡ shown))
    → StaysBelow old new node.text.items
stays_below old new node nodes only = λ text below before. record {
  nodes = λ n h. elim (Contains-push_cases old.nodes.items node n (subst (λ (l : List Node). Contains l n) nodes h)) [
    | inl o ↦ below.nodes n o
    | inr e ↦ subst (λ (m : Node). IsBefore m.text.items text) e before
  ];
  shown = λ s h. elim (only s h) [
    | inl o ↦ below.shown s o
    | inr e ↦ subst (λ (l : List ℕ). IsBefore l text) e before
  ];
}

-- or where none did
pub same_below : (old new : Walk) (text : List ℕ) → new.nodes.items ≡ old.nodes.items → shown_in new ≡ shown_in old → IsBelow old text
    → IsBelow new text
same_below old new text nodes shown below = record {
  nodes = λ n h. below.nodes n (subst (λ (l : List Node). Contains l n) nodes h);
  shown = λ s h. below.shown s (subst (λ (l : List (List ℕ)). Contains l s) shown h);
}

pub grown : (old new : Walk) → Grows old new → (node : Node) → Contains old.nodes.items node → Contains new.nodes.items node
grown old new (more, e) node h = subst (λ (l : List Node). Contains l node) (sym e) (Contains-append_left old.nodes.items more node h)

pub met_more : (asked : Asked) (old new : Walk) (text : List ℕ) → Grows old new → IsMet asked old text → IsMet asked new text
met_more asked old new text grows (node, h, s) = (node, grown old new grows node h, s)

pub met_first_more : (asked : Asked) (old new : Walk) (text : List ℕ) → Grows old new → IsMetFirst asked old text
    → IsMetFirst asked new text
met_first_more asked old new text grows (node, h, s) = (node, grown old new grows node h, s)

pub met_now : (asked : Asked) (old new : Walk) (node : Node) → new.nodes.items ≡ old.nodes.items ++ (node ∷ [])
    → IsMetFirst asked new node.text.items
met_now asked old new node e = (
  node,
  subst (λ (l : List Node). Contains l node) (sym e) (Contains-push old.nodes.items node),
  (stands_itself asked node.text.items, inl refl),
)

pub is_met : (asked : Asked) (walk : Walk) (text : List ℕ) → IsMetFirst asked walk text → IsMet asked walk text
is_met asked walk text (node, h, s) = (node, h, s.0)

-- ---- going on
pub tried_more : (asked : Asked) (old new : Walk) (head : ℕ) (letters : List ℕ) → head < length old.nodes.items → Grows old new
    → IsTried asked old head letters → IsTried asked new head letters
tried_more asked old new head letters below grows tried = λ node at c h live.
    let same : slice_get new.nodes.items head ≡ slice_get old.nodes.items head =
    ap (λ l. slice_get l head) grows.1 ∙ slice_more old.nodes.items grows.0 head below in
    met_first_more asked old new (node.text.items ++ (c ∷ [])) grows (tried node (sym same ∙ at) c h live)

pub expanded_more : (asked : Asked) (old new : Walk) (head : ℕ) → head < length old.nodes.items → Grows old new
    → IsExpandedAt asked old head → IsExpandedAt asked new head
expanded_more asked old new head below grows expanded = λ node at.
    let same : slice_get new.nodes.items head ≡ slice_get old.nodes.items head =
    ap (λ l. slice_get l head) grows.1 ∙ slice_more old.nodes.items grows.0 head below in
    let was = expanded node (sym same ∙ at) in record {
      all = λ c scalar live. met_more asked old new (node.text.items ++ (c ∷ [])) grows (was.all c scalar live);
      letters = λ c letter live. met_first_more asked old new (node.text.items ++ (c ∷ [])) grows (was.letters c letter live);
    }

pub tried_all : (asked : Asked) (old new : Walk) (letters : List ℕ) (head : ℕ) → head < length old.nodes.items → Grows old new
    → TriesAll asked old letters head → AreLetters asked old letters head → IsTried asked new head letters → IsExpandedAt asked new head
tried_all asked old new letters head below grows all are tried = λ node at.
    let same : slice_get new.nodes.items head ≡ slice_get old.nodes.items head =
    ap (λ l. slice_get l head) grows.1 ∙ slice_more old.nodes.items grows.0 head below in record {
      all = λ c scalar live.
          let r = all node (sym same ∙ at) c scalar live in
          let m = is_met asked new (node.text.items ++ (r.0 ∷ [])) (tried node at r.0 r.1 r.2) in
          (m.0, m.1, r.3 m.0.text.items m.2);
      letters = λ c letter live. tried node at c ((are node (sym same ∙ at) c).1 letter) live;
    }

pub grows_on : (one two three : Walk) → Grows one two → Grows two three → Grows one three
grows_on one two three (m, e) (n, f) = (m ++ n, f ∙ ap (λ l. l ++ n) e ∙ append_assoc one.nodes.items m n)

pub grows_none : (old new : Walk) → new.nodes.items ≡ old.nodes.items → Grows old new
grows_none old new e = ([], e ∙ sym (append-nil old.nodes.items))

-- ---- the end
pub stands_on : (asked : Asked) (node : Node) (two text : List ℕ) (c : ℕ) → IsReady asked → IsAt asked node
    → StandsFor asked node.text.items text
    → StandsFor asked two (node.text.items ++ (c ∷ [])) → StandsFor asked two (text ++ (c ∷ []))
stands_on asked node two text c ready at s r =
    let q = query_of asked in
    let one = node.text.items in
    let on : (u w : List ℕ) → (u ++ (c ∷ [])) ++ w ≡ u ++ (c ∷ w) = λ u w. append_assoc u (c ∷ []) w in record {
      grammar = λ w. (
        λ h. (r.grammar w).0 (subst (IsIn asked.grammar) (sym (on one w)) ((s.grammar (c ∷ w)).0 (subst (IsIn asked.grammar) (on text w) h))),
        λ h. subst (IsIn asked.grammar) (sym (on text w)) ((s.grammar (c ∷ w)).1 (subst (IsIn asked.grammar) (on one w) ((r.grammar w).1 h))),
      );
      groups = λ g w. (
        λ h. (r.groups g w).0 (subst (Has q g) (sym (on one w)) ((s.groups g (c ∷ w)).0 (subst (Has q g) (on text w) h))),
        λ h. subst (Has q g) (sym (on text w)) ((s.groups g (c ∷ w)).1 (subst (Has q g) (on one w) ((r.groups g w).1 h))),
      );
      named = elim r.named [
        | inl free ↦ inl free
        | inr same ↦ elim s.named [
          | inl free ↦ inl (λ w h.
              free (c ∷ w) (subst (λ (x : List ℕ). Contains q.named x) (on one w) (subst (λ (x : List ℕ). Contains q.named (x ++ w)) same h)))
          | inr this ↦ inr (same ∙ ap (λ u. u ++ (c ∷ [])) this)
        ]
      ];
      state = state_on (machine_at asked) two (one ++ (c ∷ [])) (text ++ (c ∷ [])) r.state (record {
        stage =
            stage_more text c (first_stage asked.grammar) ∙ ap (option_and_then (λ s. next_stage s c)) s.state.stage ∙ sym (stage_more one c (first_stage asked.grammar));
        places = places_on (machine_at asked) one text node.places.items c ready.table at.places_in at.placed s.state.places;
      });
      shorter = omega (arith, r.shorter, s.shorter, longer one c, longer text c);
    }

pub stands_live : (asked : Asked) (one text w : List ℕ) → StandsFor asked one text → IsLive (query_of asked) (text ++ w)
    → IsLive (query_of asked) (one ++ w)
stands_live asked one text w s live =
    let q = query_of asked in record {
      grammar =
          let (v, h) = live.grammar in
          (v, subst (IsIn asked.grammar) (sym (append_assoc one w v)) ((s.grammar (w ++ v)).0 (subst (IsIn asked.grammar) (append_assoc text w v) h)));
      within = λ g below.
          let (v, h) = live.within g below in
          (v, subst (Has q g) (sym (append_assoc one w v)) ((s.groups g (w ++ v)).0 (subst (Has q g) (append_assoc text w v) h)));
    }

-- what begins a text that is gone on with is gone on with
pub live_before : (query : Query) (text w : List ℕ) → IsLive query (text ++ w) → IsLive query text
live_before query text w live = record {
  grammar = (let (v, h) = live.grammar in (w ++ v, subst (IsIn query.grammar) (append_assoc text w v) h));
  within = λ g below. (let (v, h) = live.within g below in (w ++ v, subst (Has query g) (append_assoc text w v) h));
}

pub fits_live : (query : Query) (text : List ℕ) → Fits query text → IsLive query text
fits_live query text fits = record {
  grammar = ([], subst (IsIn query.grammar) (sym (append-nil text)) fits.grammar);
  within = λ g below. ([], subst (Has query g) (sym (append-nil text)) (fits.within g below));
}

-- the end of a walk: each node is expanded
abbrev pub AllExpanded : Asked → Walk → Type 0
AllExpanded asked walk = (i : ℕ) → i < length walk.nodes.items → IsExpandedAt asked walk i

pub reaches : (asked : Asked) (walk : Walk) → IsReady asked → IsWalk asked walk → AllExpanded asked walk
    → (w text : List ℕ) → IsText w → IsMet asked walk text → IsLive (query_of asked) (text ++ w) → IsMet asked walk (text ++ w)
reaches asked walk ready is all [] text scalars (node, h, s) live = (node, h, subst (StandsFor asked node.text.items) (sym (append-nil text)) s)
reaches asked walk ready is all (c ∷ w) text scalars (node, h, s) live =
    let at : slice_get walk.nodes.items h.0 ≡ Some node = at_slice walk.nodes.items h.0 node h.1 h.2 in
    let longer : (text ++ (c ∷ [])) ++ w ≡ text ++ (c ∷ w) = append_assoc text (c ∷ []) w in
    let on = subst (IsLive (query_of asked)) (sym longer) live in
    let next = (all h.0 h.1 node at).all c (scalars c (of_in (c ∷ w) c (inl refl)))
    (stands_live asked node.text.items text (c ∷ []) s (live_before (query_of asked) (text ++ (c ∷ [])) w on)) in
    subst (IsMet asked walk) longer
    (reaches asked walk ready is all w (text ++ (c ∷ [])) (λ d k. scalars d (of_in (c ∷ w) d (inr (in_of w d k))))
    (next.0, next.1, stands_on asked node next.0.text.items text c ready (is.nodes node h) s next.2) on)

-- what stands for a text that is asked about is asked about
pub stands_sought : (asked : Asked) (one text : List ℕ) → StandsFor asked one text → IsSought (query_of asked) text
    → IsSought (query_of asked) one
stands_sought asked one text stands s =
    let q = query_of asked in
    let same : (x : List ℕ) → x ++ [] ≡ x = λ x. append-nil x in record {
      fits = record {
        grammar = subst (IsIn asked.grammar) (same one)
            ((stands.grammar []).0 (subst (IsIn asked.grammar) (sym (same text)) s.fits.grammar));
        within = λ g below. subst (Has q g) (same one) ((stands.groups g []).0 (subst (Has q g) (sym (same text)) (s.fits.within g below)));
      };
      unnamed = elim stands.named [
        | inl free ↦ (λ h. free [] (subst (λ (x : List ℕ). Contains q.named x) (sym (same one)) h))
        | inr e ↦ (λ h. s.unnamed (subst (λ (x : List ℕ). Contains q.named x) e h))
      ];
    }

pub stands_alike : (asked : Asked) (shown one text : List ℕ) → StandsFor asked one text → Alike (query_of asked) shown one
    → Alike (query_of asked) shown text
stands_alike asked shown one text stands alike =
    let q = query_of asked in
    let same : (x : List ℕ) → x ++ [] ≡ x = λ x. append-nil x in
    λ g. (
      λ h. subst (Has q g) (same text) ((stands.groups g []).1 (subst (Has q g) (sym (same one)) ((alike g).0 h))),
      λ h. (alike g).1 (subst (Has q g) (same one) ((stands.groups g []).0 (subst (Has q g) (sym (same text)) h))),
    )

pub are_texts : (asked : Asked) (walk : Walk) → IsReady asked → IsWalk asked walk → IsMet asked walk [] → AllExpanded asked walk
    → AreTexts (query_of asked) (shown_in walk)
are_texts asked walk ready is root all = record {
  sought = λ text h. (is.sought text h).1;
  whole = λ text scalars s.
      let r = reaches asked walk ready is all text [] scalars root (fits_live (query_of asked) text s.fits) in
      let shown = is.covered r.0 r.1 (stands_sought asked r.0.text.items text r.2 s) in
      let less = not_after_length shown.0 r.0.text.items shown.3 in
      (shown.0, shown.1, stands_alike asked shown.0 r.0.text.items text r.2 shown.2, omega (arith, less, r.2.shorter));
  apart = is.apart;
  order = is.order;
}

-- the letters of a node of the walk
pub tries_node : (asked : Asked) (walk : Walk) (head : ℕ) (node : Node) (kept waited : List ℕ) (tails : List (Bor (List ℕ))) (letters : List ℕ)
    → IsReady asked → IsWalk asked walk
    → head < length walk.nodes.items → get_or walk.nodes.items head node ≡ node
    → SameElements kept (waited_at asked.table.now.patterns.items node.places.items ++ waited_in node.stage.part) → waited ≡ kept
    → tails ≡ node.tails.items
    → ((c : ℕ) → IsScalar c → is_some (next_stage node.stage c) ≡ true → Stands node.stage waited (map (λ t. t.now) tails) letters c)
    → TriesAll asked walk letters head
tries_node asked walk head node kept waited tails letters ready is below here same kept_is tails_is stands = λ other at c scalar live.
    let e : node ≡ other = sym here ∙ slice_at walk.nodes.items head other node at in
    let back : IsLive (query_of asked) (node.text.items ++ (c ∷ [])) = subst (λ (n : Node). IsLive (query_of asked) (n.text.items ++ (c ∷ []))) (sym e) live in
    subst (λ (n : Node). (o : ℕ) × Contains letters o × IsLive (query_of asked) (n.text.items ++ (o ∷ []))
    × ((other : List ℕ) → StandsFor asked other (n.text.items ++ (o ∷ [])) → StandsFor asked other (n.text.items ++ (c ∷ [])))) e
    (tries asked node waited letters ready (is.nodes node (head, below, here))
    (λ d h. in_of waited d (subst (λ (l : List ℕ). Contains l d) (sym kept_is) ((same d).1 (of_in _ d h))))
    (λ c scalar goes. subst (λ l. Stands node.stage waited (map (λ (t : Bor (List ℕ)). t.now) l) letters c) tails_is (stands c scalar goes)) c scalar back)

-- what follows of an answer that all fits
pub if_fits : {E A C : Type 0} (r : Result Bool E) → (A → C) → IfOk r (λ f. OnTrue f A) → IfOk r (λ f. OnTrue f C)
if_fits (Ok true) go a = go a
if_fits (Ok false) go a = tt
if_fits (Err e) go a = tt

pub if_both_fit : {E A B C : Type 0} (r : Result Bool E) → (A → B → C) → IfOk r (λ f. OnTrue f A) → IfOk r (λ f. OnTrue f B)
    → IfOk r (λ f. OnTrue f C)
if_both_fit (Ok true) go a b = go a b
if_both_fit (Ok false) go a b = tt
if_both_fit (Err e) go a b = tt

pub if_four_fit : {E A B C D R : Type 0} (r : Result Bool E) → (A → B → C → D → R) → IfOk r (λ f. OnTrue f A) → IfOk r (λ f. OnTrue f B)
    → IfOk r (λ f. OnTrue f C) → IfOk r (λ f. OnTrue f D) → IfOk r (λ f. OnTrue f R)
if_four_fit (Ok true) go a b c d = go a b c d
if_four_fit (Ok false) go a b c d = tt
if_four_fit (Err e) go a b c d = tt

-- a letter was tried at a node
pub tried_one : (asked : Asked) (old new : Walk) (head : ℕ) (node child : Node) (letter : ℕ) → head < length old.nodes.items
    → get_or old.nodes.items head node ≡ node → child.text.items ≡ node.text.items ++ (letter ∷ []) → Grows old new
    → IsMetFirst asked new child.text.items
    → IsTried asked new head (letter ∷ [])
tried_one asked old new head node child letter below here text grows met = λ other at c h live.
    let same : slice_get new.nodes.items head ≡ slice_get old.nodes.items head =
    ap (λ l. slice_get l head) grows.1 ∙ slice_more old.nodes.items grows.0 head below in
    let e : node ≡ other = sym here ∙ slice_at old.nodes.items head other node (sym same ∙ at) in
    let l : letter ≡ c = elim (in_of (letter ∷ []) c h) [ inl s ↦ s | inr none ↦ absurd none ] in
    subst (IsMetFirst asked new) (text ∙ ap (λ d. node.text.items ++ (d ∷ [])) l ∙ ap (λ (n : Node). n.text.items ++ (c ∷ [])) e) met

pub tried_none : (asked : Asked) (walk : Walk) (head : ℕ) (node : Node) (letter : ℕ) → get_or walk.nodes.items head node ≡ node
    → ¬ IsLive (query_of asked) (node.text.items ++ (letter ∷ [])) → IsTried asked walk head (letter ∷ [])
tried_none asked walk head node letter here none = λ other at c h live.
    let e : node ≡ other = sym here ∙ slice_at walk.nodes.items head other node at in
    let l : letter ≡ c = elim (in_of (letter ∷ []) c h) [ inl s ↦ s | inr no_more ↦ absurd no_more ] in
    absurd (none (subst (λ d. IsLive (query_of asked) (node.text.items ++ (d ∷ []))) (sym l)
    (subst (λ (n : Node). IsLive (query_of asked) (n.text.items ++ (c ∷ []))) (sym e) live)))

pub tried_both : (asked : Asked) (walk : Walk) (head : ℕ) (letters : List ℕ) (letter : ℕ) → IsTried asked walk head letters
    → IsTried asked walk head (letter ∷ []) → IsTried asked walk head (letters ++ (letter ∷ []))
tried_both asked walk head letters letter some one = λ node at c h live.
    elim (Contains-push_cases letters letter c h) [
      | inl o ↦ some node at c o live
      | inr e ↦ one node at c (of_in (letter ∷ []) c (inl e)) live
    ]

pub tried_nothing : (asked : Asked) (walk : Walk) (head : ℕ) → IsTried asked walk head []
tried_nothing asked walk head = λ node at c h live. absurd (in_of [] c h)

pub grown_length : (old new : Walk) → Grows old new → length old.nodes.items ≤ length new.nodes.items
grown_length old new (more, e) = omega (arith, ap length e, length-append old.nodes.items more)

-- what is below stays below where a letter was tried
pub below_one : (old new : Walk) (head : ℕ) (node child : Node) (letter : ℕ) → get_or old.nodes.items head node ≡ node
    → child.text.items ≡ node.text.items ++ (letter ∷ []) → StaysBelow old new child.text.items
    → StaysBelowBehind old new head (letter ∷ [])
below_one old new head node child letter here text stays = λ other at above below before.
    let e : node ≡ other = sym here ∙ slice_at old.nodes.items head other node at in
    let child_is : child.text.items ≡ other.text.items ++ (letter ∷ []) = text ∙ ap (λ (n : Node). n.text.items ++ (letter ∷ [])) e in
    stays above below (subst (λ (l : List ℕ). IsBefore l above) (sym child_is) (before letter (of_in (letter ∷ []) letter (inl refl))))

pub at_before : (old new : Walk) (head : ℕ) (node : Node) → head < length old.nodes.items → Grows old new
    → slice_get new.nodes.items head ≡ Some node
    → slice_get old.nodes.items head ≡ Some node
at_before old new head node below grows at = sym (ap (λ l. slice_get l head) grows.1 ∙ slice_more old.nodes.items grows.0 head below) ∙ at

pub at_after : (old new : Walk) (head : ℕ) (node : Node) → head < length old.nodes.items → Grows old new
    → slice_get old.nodes.items head ≡ Some node
    → slice_get new.nodes.items head ≡ Some node
at_after old new head node below grows at = ap (λ l. slice_get l head) grows.1 ∙ slice_more old.nodes.items grows.0 head below ∙ at

-- letters that rise
pub rising_less : (letters : List ℕ) (i letter d : ℕ) → IsStrictlyIncreasing letters → i < length letters → get_or letters i letter ≡ letter
    → Contains (take i letters) d → d < letter
rising_less letters i letter d rising within here (k, below, same) =
    let short = length-take-le i letters in
    let less : k < i = omega (arith, below, short) in
    let first : get_or letters k d ≡ d = sym (get_or-take i letters k d less) ∙ same in
    let pairs = AllPairs-from_increasing letters rising k i letter less within in
    let one : get_or letters k letter ≡ d = get_or_any letters k letter d (omega (arith, less, within)) ∙ first in
    omega (arith, pairs, one, here)

-- what is below a text is below those behind it
pub below_on : (walk : Walk) (one other : List ℕ) → IsBelow walk one → IsBefore one other → IsBelow walk other
below_on walk one other below before = record {
  nodes = λ n h. before_trans n.text.items one other (below.nodes n h) before;
  shown = λ s h. before_trans s one other (below.shown s h) before;
}

-- the next node's letters are behind all that came
pub below_head : (asked : Asked) (old new : Walk) (head : ℕ) → head < length old.nodes.items → Grows old new → IsWalk asked new
    → ((node : Node) → slice_get old.nodes.items head ≡ Some node → (c : ℕ) → IsBelow old (node.text.items ++ (c ∷ [])))
    → ((node : Node) → slice_get old.nodes.items head ≡ Some node → (text : List ℕ) → IsBelow old text
    → ((c : ℕ) → IsBefore (node.text.items ++ (c ∷ [])) text) → IsBelow new text)
    → (node : Node) → slice_get new.nodes.items (head + 1) ≡ Some node → (c : ℕ) → IsBelow new (node.text.items ++ (c ∷ []))
below_head asked old new head within grows is below only = λ node at c.
    let u = element old.nodes.items head within in
    let there = at_after old new head u.0 within grows u.1 in
    let next = slice_below new.nodes.items (head + 1) node at in
    let pair = is.rising head (head + 1) node (omega arith) next in
    let first : get_or new.nodes.items head node ≡ u.0 = slice_at new.nodes.items head u.0 node there in
    let second : get_or new.nodes.items (head + 1) node ≡ node = slice_at new.nodes.items (head + 1) node node at in
    let before : IsBefore u.0.text.items node.text.items =
    subst (λ (n : Node). IsBefore u.0.text.items n.text.items) second
    (subst (λ (n : Node). IsBefore n.text.items (get_or new.nodes.items (head + 1) node).text.items) first pair) in
    only u.0 u.1 (node.text.items ++ (c ∷ []))
    (below_on old (u.0.text.items ++ (c ∷ [])) (node.text.items ++ (c ∷ [])) (below u.0 u.1 c) (before_on u.0.text.items node.text.items c c before))
    (λ d. before_on u.0.text.items node.text.items d c before)
