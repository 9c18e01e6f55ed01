-- What a walk has counted, and what passes a limit.
use Rattle.std.proofs.Common.{Bor, ◌≡◌, ◌≢◌, ◌↔◌, ◌⊎◌, inl, inr, ℕ, ◌<◌, ◌≤◌, ◌+◌, List, [], ◌∷◌, ◌++◌, length, map, get_or, refl, sym, ap, ◌∙◌, subst, arith, Some, length-append}
use Rattle.std.specs.List.{AllPairs, Contains, sum_by}
use Rattle.std.proofs.lemmas.List.{length-map}
use Rattle.std.proofs.lemmas.List.Elements.{Contains-append_left, Contains-get_or, Contains-push, Contains-push_cases}
use Rattle.std.proofs.lemmas.List.Quantifiers.{all_pairs_push}
use Rattle.std.proofs.lemmas.List.Sums.{sum_by-cons, sum_by_push}
use Rattle.iam_kinds.specs.Code.{stage_number}
use Rattle.iam_kinds.specs.Kinds.{IsText}
use Rattle.iam_kinds.specs.Lists.{lists_in}
use Rattle.iam_kinds.specs.Places.{IsRising, place_cmp}
use Rattle.iam_kinds.specs.States.{AreStates, HasManyStates, IsSame, IsState, State}
use Rattle.iam_kinds.specs.Walk.{Alike, AreTexts, Counts, Describes, HasManyTexts, HasSeen, IsAt, IsBelow, IsCounted, IsFree, IsMet, IsMetFirst, IsOver, IsReady, IsSought, IsWalk, key_of, machine_at, place_numbers, query_of, shown_in, state_of, tails_at}
use Rattle.iam_kinds.specs.declared.asked.Asked.{Asked}
use Rattle.iam_kinds.specs.declared.asked.Node.{Node}
use Rattle.iam_kinds.specs.declared.table.Place.{Place}
use Rattle.iam_kinds.specs.declared.walk.Walk.{Walk}
use Rattle.iam_kinds.proofs.FewerLemmas.{ApartBy, apart_by, apart_map, apart_weaker, by_apart, fewer, fewer_elements, fewer_once}
use Rattle.iam_kinds.proofs.GoLemmas.{AllExpanded, reaches, unlike}
use Rattle.iam_kinds.proofs.Members.{In, from_map, in_of, of_in}
use Rattle.iam_kinds.proofs.OrderLemmas.{before_length}
use Rattle.iam_kinds.proofs.PlaceLemmas.{place_total}
use Rattle.iam_kinds.proofs.SetLemmas.{before_all, not_both, same_elements}
use Rattle.std.proofs.lemmas.Map.Keys.{sorted_tail}
use Rattle.iam_kinds.proofs.StateLemmas.{same_key, same_state}

-- ---- what is counted, from step to step
-- a node more with which some named text begins
pub seen_more : (old new : Walk) (node : Node) → new.nodes.items ≡ old.nodes.items ++ (node ∷ []) → tails_at node ≢ []
    → lists_in new.seen ≡ lists_in old.seen → new.states ≡ old.states → new.places ≡ old.places → HasSeen old → HasSeen new
seen_more old new node nodes named same states places (free, counts) =
    let on : (key : List ℕ) → Contains (lists_in old.seen) key → Contains (lists_in new.seen) key =
    λ key h. subst (λ (l : List (List ℕ)). Contains l key) (sym same) h in (
      free,
      record {
        nodes = λ n h.
            let r = counts.nodes n h in
            (subst (λ (l : List Node). Contains l n) (sym nodes) (Contains-append_left old.nodes.items (node ∷ []) n r.0), r.1);
        all = λ n h none. elim (Contains-push_cases old.nodes.items node n (subst (λ (l : List Node). Contains l n) nodes h)) [
          | inl o ↦ on (key_of n) (counts.all n o none)
          | inr e ↦ absurd (named (ap tails_at e ∙ none))
        ];
        seen = λ key h. counts.seen key (subst (λ (l : List (List ℕ)). Contains l key) same h);
        back = λ n h. on (key_of n) (counts.back n h);
        apart = counts.apart;
        states = states ∙ counts.states;
        places = places ∙ counts.places;
        few = subst (λ n. n ≤ 65536) (sym states) counts.few;
        held = subst (λ n. n ≤ 4194304) (sym places) counts.held;
      },
    )

pub some_tails : (tails : List (Bor (List ℕ))) → (length tails ≡ 0 → ⊥) → map (λ tail. tail.now) tails ≢ []
some_tails [] some e = some refl
some_tails (tail ∷ tails) some e = cc

-- a state that was seen is added again
pub seen_before : (old new : Walk) (key : List ℕ) → new.nodes.items ≡ old.nodes.items → new.states ≡ old.states → new.places ≡ old.places
    → Contains (lists_in old.seen) key
    → ((list : List ℕ) → Contains (lists_in new.seen) list ↔ (Contains (lists_in old.seen) list ⊎ (list ≡ key))) → HasSeen old → HasSeen new
seen_before old new key nodes states places has lists (free, counts) = (
  free,
  record {
    nodes = λ n h. let r = counts.nodes n h in (subst (λ (l : List Node). Contains l n) (sym nodes) r.0, r.1);
    all = λ n h none. (lists (key_of n)).1 (inl (counts.all n (subst (λ (l : List Node). Contains l n) nodes h) none));
    seen = λ list h. counts.seen list (elim ((lists list).0 h) [
      | inl o ↦ o
      | inr e ↦ subst (λ (l : List ℕ). Contains (lists_in old.seen) l) (sym e) has
    ]);
    back = λ n h. (lists (key_of n)).1 (inl (counts.back n h));
    apart = counts.apart;
    states = states ∙ counts.states;
    places = places ∙ counts.places;
    few = subst (λ n. n ≤ 65536) (sym states) counts.few;
    held = subst (λ n. n ≤ 4194304) (sym places) counts.held;
  },
)

-- a node more with a state of its own
pub apart_push : (walk : Walk) (free : List Node) (node : Node) (key : List ℕ) → Counts walk free → key ≡ key_of node
    → (¬ Contains (lists_in walk.seen) key)
    → AllPairs (λ one other. key_of one ≢ key_of other) (free ++ (node ∷ []))
apart_push walk free node key counts is lacks =
    all_pairs_push (λ one other. key_of one ≢ key_of other) free node counts.apart (λ k d below same.
    lacks (subst (λ (l : List ℕ). Contains (lists_in walk.seen) l) (same ∙ sym is) (counts.back (get_or free k d) (Contains-get_or free k d below))))

pub seen_now : (old new : Walk) (node : Node) (key : List ℕ) → new.nodes.items ≡ old.nodes.items ++ (node ∷ []) → key ≡ key_of node
    → tails_at node ≡ []
    → (¬ Contains (lists_in old.seen) key)
    → ((list : List ℕ) → Contains (lists_in new.seen) list ↔ (Contains (lists_in old.seen) list ⊎ (list ≡ key)))
    → new.states ≡ old.states + 1 → new.states ≤ 65536 → new.places ≡ old.places + length node.places.items → new.places ≤ 4194304
    → HasSeen old → HasSeen new
seen_now old new node key nodes is none lacks lists states few places held (free, counts) =
    let here : Contains new.nodes.items node = subst (λ (l : List Node). Contains l node) (sym nodes) (Contains-push old.nodes.items node) in (
      free ++ (node ∷ []),
      record {
        nodes = λ n h. elim (Contains-push_cases free node n h) [
          | inl o ↦
              let r = counts.nodes n o in
              (subst (λ (l : List Node). Contains l n) (sym nodes) (Contains-append_left old.nodes.items (node ∷ []) n r.0), r.1)
          | inr e ↦ subst (λ (m : Node). Contains new.nodes.items m × (tails_at m ≡ [])) e (here, none)
        ];
        all = λ n h no_tails. elim (Contains-push_cases old.nodes.items node n (subst (λ (l : List Node). Contains l n) nodes h)) [
          | inl o ↦ (lists (key_of n)).1 (inl (counts.all n o no_tails))
          | inr e ↦ (lists (key_of n)).1 (inr (sym (ap key_of e) ∙ sym is))
        ];
        seen = λ list h. elim ((lists list).0 h) [
          | inl o ↦ let r = counts.seen list o in (r.0, Contains-append_left free (node ∷ []) r.0 r.1, r.2)
          | inr e ↦ (node, Contains-push free node, e ∙ is)
        ];
        back = λ n h. elim (Contains-push_cases free node n h) [
          | inl o ↦ (lists (key_of n)).1 (inl (counts.back n o))
          | inr e ↦ (lists (key_of n)).1 (inr (sym (ap key_of e) ∙ sym is))
        ];
        apart = apart_push old free node key counts is lacks;
        states = omega (arith, states, counts.states, length-append free (node ∷ []));
        places =
            let more = sum_by_push (λ (n : Node). length n.places.items) free node in
            places ∙ ap (λ n. n + length node.places.items) counts.places ∙ sym more;
        few = few;
        held = held;
      },
    )

pub free_text : (asked : Asked) (node : Node) → IsAt asked node → tails_at node ≡ [] → IsFree (query_of asked) node.text.items
free_text asked node at none = λ rest h. in_of [] rest (subst (λ (l : List (List ℕ)). Contains l rest) none ((at.tails rest).0 h))

-- the state of a node with which no named text begins was seen
pub met_before : (asked : Asked) (walk : Walk) (node : Node) (key : List ℕ) → IsWalk asked walk → IsBelow walk node.text.items
    → HasSeen walk → IsAt asked node → tails_at node ≡ []
    → key ≡ key_of node → Contains (lists_in walk.seen) key → IsMetFirst asked walk node.text.items
met_before asked walk node key is below (free, counts) at none same h =
    let r = counts.seen key h in
    let n = counts.nodes r.0 r.1 in
    let before = below.nodes r.0 n.0 in
    let first = is.nodes r.0 n.0 in (
      r.0,
      n.0,
      (
        same_state asked r.0 node first at (sym r.2 ∙ same) n.1 (before_length r.0.text.items node.text.items before),
        inr (free_text asked r.0 first n.1, free_text asked node at none, before),
      ),
    )

-- ---- a limit is passed
pub once_of : (places : List Place) → IsRising places → AllPairs (λ one other. one ≢ other) places
once_of places rising = by_apart (λ one other. one ≢ other) places (apart places rising)
  where
    apart : (places : List Place) → IsRising places → ApartBy (λ one other. one ≢ other) places
    apart [] rising = tt
    apart (k ∷ places) rising = (
      λ j h same.
          let less = before_all _ k places rising j h in
          not_both place_total k j less (ap (λ x. place_cmp j x) same ∙ ap (λ x. place_cmp x j) (sym same) ∙ less),
      apart places (sorted_tail _ k places rising),
    )

pub text_free : (asked : Asked) (node : Node) → IsAt asked node → IsFree (query_of asked) node.text.items → tails_at node ≡ []
text_free asked node at free = empty (tails_at node) (λ w h. free w ((at.tails w).1 h))
  where
    empty : (tails : List (List ℕ)) → ((w : List ℕ) → ¬ Contains tails w) → tails ≡ []
    empty [] none = refl
    empty (w ∷ tails) none = absurd (none w (of_in (w ∷ tails) w (inl refl)))

pub node_state : (asked : Asked) (node : Node) → IsAt asked node → IsState (machine_at asked) node.text.items (state_of node)
node_state asked node at = record { stage = at.read; places = at.placed; once = once_of node.places.items at.rising }

pub same_keys : (asked : Asked) (one other : Node) → IsAt asked one → IsAt asked other → IsSame (state_of one) (state_of other)
    → key_of one ≡ key_of other
same_keys asked one other at at' (stage, places) =
    let same = same_elements place_total one.places.items other.places.items at.rising at'.rising
    (λ k h. in_of other.places.items k ((places k).0 (of_in one.places.items k h)))
    (λ k h. in_of one.places.items k ((places k).1 (of_in other.places.items k h))) in
    ap (λ s. stage_number s ∷ place_numbers one.places.items) stage
    ∙ ap (λ l. stage_number other.stage ∷ place_numbers l) same

pub sum_map : {A B : Type 0} (f : B → ℕ) (g : A → B) (xs : List A) → sum_by f (map g xs) ≡ sum_by (λ x. f (g x)) xs
sum_map f g [] = refl
sum_map f g (x ∷ xs) =
    let one = sum_by-cons f (g x) (map g xs) in
    let two = sum_by-cons (λ x. f (g x)) x xs in
    let rest = sum_map f g xs in omega (arith, one, two, rest)

-- the states of these nodes are states behind texts
pub node_states : (asked : Asked) (nodes : List Node) → ((node : Node) → Contains nodes node → IsAt asked node × (tails_at node ≡ []))
    → AllPairs (λ one other. key_of one ≢ key_of other) nodes
    → AreStates (IsCounted (query_of asked)) (machine_at asked) (map state_of nodes)
node_states asked nodes are apart = record {
  behind = λ state h.
      let r = from_map state_of nodes state (in_of _ state h) in
      let at = are r.0 (of_in nodes r.0 r.1) in (
        r.0.text.items,
        (at.0.characters, at.0.live, free_text asked r.0 at.0 at.1),
        subst (IsState (machine_at asked) r.0.text.items) r.2 (node_state asked r.0 at.0),
      );
  apart =
      by_apart (λ one other. ¬ IsSame one other) (map state_of nodes)
      (apart_map state_of (λ one other. ¬ IsSame one other) nodes
      (apart_weaker (λ one other. key_of one ≢ key_of other) (λ one other. ¬ IsSame (state_of one) (state_of other)) nodes (λ x y h k differ same.
      differ (same_keys asked x y (are x (of_in nodes x h)).0 (are y (of_in nodes y k)).0 same))
      (apart_by (λ one other. key_of one ≢ key_of other) nodes apart)));
}

pub many_states : (asked : Asked) (walk : Walk) (node : Node) (key : List ℕ) → IsWalk asked walk → HasSeen walk → IsAt asked node
    → tails_at node ≡ []
    → key ≡ key_of node → (¬ Contains (lists_in walk.seen) key)
    → (65536 ≤ walk.states) ⊎ (4194304 < walk.places + length node.places.items) → IsOver asked
many_states asked walk node key is (free, counts) at none same lacks past =
    let all = free ++ (node ∷ []) in
    let are : (n : Node) → Contains all n → IsAt asked n × (tails_at n ≡ []) =
    λ n h.
    elim (Contains-push_cases free node n h) [
      | inl o ↦ let r = counts.nodes n o in (is.nodes n r.0, r.1)
      | inr e ↦ subst (λ (m : Node). IsAt asked m × (tails_at m ≡ [])) e (at, none)
    ] in
    let size = length-map all state_of in
    let more = length-append free (node ∷ []) in
    let held = sum_map (λ (state : State). length state.places) state_of all in
    let push = sum_by_push (λ (n : Node). length n.places.items) free node in
    inl (
      map state_of all,
      node_states asked all are (apart_push walk free node key counts same lacks),
      elim past [
        | inl s ↦ inl (omega (arith, s, size, more, counts.states))
        | inr p ↦ inr (omega (arith, p, held, push, counts.places))
      ],
    )

pub many_texts : (asked : Asked) (walk : Walk) (text numbers : List ℕ) → IsWalk asked walk → (¬ Contains (lists_in walk.kinds) numbers)
    → Describes (query_of asked) numbers text → IsText text × IsSought (query_of asked) text → 4096 ≤ length (shown_in walk) → IsOver asked
many_texts asked walk text numbers is lacks d s full =
    let q = query_of asked in
    let all = shown_in walk ++ (text ∷ []) in
    inr (
      all,
      record {
        sought = λ x h. elim (Contains-push_cases (shown_in walk) text x h) [
          | inl o ↦ is.sought x o
          | inr e ↦ subst (λ (x : List ℕ). IsText x × IsSought q x) e s
        ];
        apart = all_pairs_push (λ one other. ¬ Alike q one other) (shown_in walk) text is.apart (unlike asked walk text numbers is lacks d);
      },
      (let more = length-append (shown_in walk) (text ∷ []) in omega (arith, full, more)),
    )

-- ---- no limit is passed
-- the state of a text that is gone on with is that of a counted node
pub counted_node : (asked : Asked) (walk : Walk) (free : List Node) → IsReady asked → IsWalk asked walk → Counts walk free
    → IsMet asked walk [] → AllExpanded asked walk
    → (text : List ℕ) → IsCounted (query_of asked) text → (state : State) → IsState (machine_at asked) text state
    → (node : Node) × In node free × IsSame state (state_of node)
counted_node asked walk free ready is counts root all text (characters, live, unnamed) state behind =
    let met = reaches asked walk ready is all text [] characters root live in
    let node = met.0 in
    let at = is.nodes node met.1 in
    let none = text_free asked node at (elim met.2.named [
      | inl f ↦ f
      | inr e ↦ subst (IsFree (query_of asked)) (sym e) unnamed
    ]) in
    let seen = counts.seen (key_of node) (counts.all node met.1 none) in
    let same = same_key node seen.0 seen.2 in
    let read : Some state.stage ≡ Some node.stage = sym behind.stage ∙ met.2.state.stage ∙ at.read in
    let stage : state.stage ≡ node.stage = cc in (
      seen.0,
      in_of free seen.0 seen.1,
      (
        stage ∙ same.0,
        λ k. (
          λ h. subst (λ l. Contains l k) same.1 ((at.placed k).1 ((met.2.state.places k).0 ((behind.places k).0 h))),
          λ h. (behind.places k).1 ((met.2.state.places k).1 ((at.placed k).0 (subst (λ l. Contains l k) (sym same.1) h))),
        ),
      ),
    )

pub few_states : (asked : Asked) (walk : Walk) → IsReady asked → IsWalk asked walk → HasSeen walk → IsMet asked walk []
    → AllExpanded asked walk
    → ¬ HasManyStates (IsCounted (query_of asked)) (machine_at asked)
few_states asked walk ready is (free, counts) root all (states, are, past) =
    let T : State → Node → Type 0 = λ s n. IsSame s (state_of n) × AllPairs (λ one other. one ≢ other) s.places in
    let has : (s : State) → In s states → (n : Node) × In n free × T s n =
    λ s h.
    let b = are.behind s (of_in states s h) in
    let n = counted_node asked walk free ready is counts root all b.0 b.1 s b.2 in
    (n.0, n.1, (n.2, b.2.once)) in
    let apart : ApartBy (λ x z. (n : Node) → T x n → T z n → ⊥) states = apart_weaker (λ one other. ¬ IsSame one other) (λ x z. (n : Node) → T x n → T z n → ⊥) states
    (λ x z h k differ n s t. differ (
      s.0.0 ∙ sym t.0.0,
      λ k. (λ h. (t.0.1 k).1 ((s.0.1 k).0 h), λ h. (s.0.1 k).1 ((t.0.1 k).0 h)),
    )) (apart_by (λ one other. ¬ IsSame one other) states are.apart) in
    elim past [
      | inl many ↦
          let r = fewer_elements T states free has apart in absurd (omega (arith, many, r, counts.states, counts.few))
      | inr many ↦
          let r = fewer T (λ s. length s.places) (λ n. length n.places.items) states free has apart (λ s n t.
          fewer_once s.places n.places.items t.1 (λ k h. (t.0.1 k).0 h)) in
          absurd (omega (arith, many, r, counts.places, counts.held))
    ]

pub few_texts : (asked : Asked) (walk : Walk) → IsWalk asked walk → AreTexts (query_of asked) (shown_in walk)
    → ¬ HasManyTexts (query_of asked)
few_texts asked walk is texts (others, are, many) =
    let q = query_of asked in
    let T : List ℕ → List ℕ → Type 0 = λ text shown. Alike q shown text in
    let r = fewer_elements T others (shown_in walk) (λ text h.
    let s = are.sought text (of_in others text h) in
    let w = texts.whole text s.0 s.1 in (w.0, in_of (shown_in walk) w.0 w.1, w.2))
    (apart_weaker (λ one other. ¬ Alike q one other) (λ x z. (y : List ℕ) → T x y → T z y → ⊥) others (λ x z h k differ y s t.
    differ (λ g. (λ h. (t g).0 ((s g).1 h), λ h. (s g).0 ((t g).1 h)))) (apart_by (λ one other. ¬ Alike q one other) others are.apart)) in
    absurd (let few = is.few in omega (arith, many, r, few))

pub not_over : (asked : Asked) (walk : Walk) → IsReady asked → IsWalk asked walk → HasSeen walk → IsMet asked walk []
    → AllExpanded asked walk
    → AreTexts (query_of asked) (shown_in walk) → ¬ IsOver asked
not_over asked walk ready is seen root all texts (inl many) = few_states asked walk ready is seen root all many
not_over asked walk ready is seen root all texts (inr many) = few_texts asked walk is texts many
