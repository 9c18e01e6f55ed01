-- The actions that patterns match are marked, one pattern and one action after the other.
use Rattle.std.proofs.Common.{◌≡◌, ◌≢◌, ◌↔◌, ◌⊎◌, ◌<◌, ◌+◌, inl, inr, ℕ, zero, suc, Bool, true, false, not, Any, MatchBool, IsTrue, List, [], ◌∷◌, ◌++◌, get_or, length, replicate, set, take, Some, refl, sym, ap, ◌∙◌, subst, arith}
use Rattle.std.proofs.lemmas.List.{get_or-replicate, length-replicate, length-set, take_more}
use Rattle.std.proofs.lemmas.Grind.{get_or_default_zero}
use Rattle.std.proofs.lemmas.List.Elements.{Contains-append_left, Contains-push_cases}
use Rattle.std.proofs.lemmas.List.Quantifiers.{Any-push}
use Rattle.std.proofs.lemmas.Option.{get_or_from_slice_get, slice_get-get_or, slice_get_within}
use Rattle.std.specs.Bool.{beq}
use Rattle.std.specs.List.{list_any, slice_get}
use Rattle.std.specs.Str.{chars}
use Rattle.iam_glob.specs.Glob.{MatchesFold}
use Rattle.iam_glob.specs.declared.sign.Sign.{Sign}
use Rattle.iam_services.specs.Services.{TriesMatched}
use Rattle.iam_element.specs.Reading.{ActionElement}
use Rattle.iam_layers.specs.Cell.{IsAction}
use Rattle.iam_world.specs.World.{WorldValue}
use Rattle.iam_index.proofs.ListLemmas.{get_within}
use Rattle.iam_index.specs.Elements.{Marked, MatchesNone, SomeMatches, TellActs, TellSome}

-- some of a list and one more has the property
any_left : {X : Type 0} (P : X → Type 0) (xs : List X) (y : X) → Any P xs → Any P (xs ++ y ∷ [])
any_left P xs y (k, x, below, is, p) =
    let (j, within, same) = Contains-append_left xs (y ∷ []) x (k, below, is) in (j, x, within, same, p)

any_back : {X : Type 0} (P : X → Type 0) (xs : List X) (y : X) → Any P (xs ++ y ∷ []) → Any P xs ⊎ P y
any_back P xs y (k, x, below, is, p) =
    elim (Contains-push_cases xs y x (k, below, is)) [ inl (j, within, same) ↦ inl (j, x, within, same, p) | inr own ↦ inr (subst P (sym own) p) ]

-- what stands in a list after one of it is changed
get_set : {X : Type 0} (xs : List X) (i : ℕ) (y : X) (j : ℕ) (x : X) → slice_get (set xs i y) j ≡ Some x
    → ((j ≡ i) × (x ≡ y)) ⊎ ((j ≢ i) × (slice_get xs j ≡ Some x))
get_set [] i y j x at = absurd (let within = slice_get_within (set [] i y) j x at in omega (arith, within))
get_set (z ∷ xs) zero y zero x at = let same : x ≡ y = cc in inl (refl, same)
get_set (z ∷ xs) zero y (suc j) x at = inr (λ e. omega (arith, e), at)
get_set (z ∷ xs) (suc i) y zero x at = inr (λ e. omega (arith, e), at)
get_set (z ∷ xs) (suc i) y (suc j) x at =
    elim (get_set xs i y j x at) [
      | inl (here, same) ↦ inl (ap suc here, same)
      | inr (other, there) ↦ inr (λ e. other (let less : j ≡ i = omega (arith, e) in less), there)
    ]

pub not_unlike : (one other : Bool) → not (beq one other) ≡ false → one ≡ other
not_unlike true true e = refl
not_unlike true false e = cc
not_unlike false true e = cc
not_unlike false false e = refl

-- the pattern matches action a, whose mark is set
pub marked_set : (world : WorldValue) (mark : Bool) (done : List (List Sign)) (pattern : List Sign) (numbers : List ℕ) (acts : List Bool) (a : ℕ)
    → ((text : List ℕ) → IsAction world a text → MatchesFold pattern (chars text)) → Marked world mark done pattern numbers acts
    → Marked world mark done pattern (numbers ++ a ∷ []) (set acts a mark)
marked_set world mark done pattern numbers acts a matches marked = record {
  count = length-set acts a mark ∙ marked.count;
  right = λ b act text at asked same.
      elim (get_set acts a mark b act at) [
        | inl (here, own) ↦
            let A : ℕ → Type 0 = λ n. IsAction world n text in
            Any-push (λ p. MatchesFold p (chars text)) done pattern (matches text (subst A here asked))
        | inr (other, there) ↦ marked.right b act text there asked same
      ];
  before = λ b act text at asked some.
      elim (get_set acts a mark b act at) [ inl (here, own) ↦ own | inr (other, there) ↦ marked.before b act text there asked some ];
  tried = λ b act text at asked has matched.
      elim (get_set acts a mark b act at) [
        | inl (here, own) ↦ own
        | inr (other, there) ↦
            elim (Contains-push_cases numbers a b has) [
              | inl before ↦ marked.tried b act text there asked before matched
              | inr same ↦ absurd (other (sym same))
            ]
      ];
}

-- action a has its mark, or the pattern does not match it, or it is none
pub marked_kept : (world : WorldValue) (mark : Bool) (done : List (List Sign)) (pattern : List Sign) (numbers : List ℕ) (acts : List Bool) (a : ℕ)
    → ((act : Bool) (text : List ℕ) → slice_get acts a ≡ Some act → IsAction world a text → MatchesFold pattern (chars text) → act ≡ mark)
    → Marked world mark done pattern numbers acts → Marked world mark done pattern (numbers ++ a ∷ []) acts
marked_kept world mark done pattern numbers acts a kept marked = record {
  count = marked.count;
  right = marked.right;
  before = marked.before;
  tried = λ b act text at asked has matched.
      elim (Contains-push_cases numbers a b has) [
        | inl before ↦ marked.tried b act text at asked before matched
        | inr same ↦
            let A : ℕ → Type 0 = λ n. IsAction world n text in
            let G : ℕ → Type 0 = λ n. slice_get acts n ≡ Some act in
            kept act text (subst G (sym same) at) (subst A (sym same) asked) matched
      ];
}

-- before the first action, and behind the last
pub marked_start : (world : WorldValue) (mark : Bool) (done : List (List Sign)) (pattern : List Sign) (acts : List Bool) → TellSome world mark done acts
    → Marked world mark done pattern [] acts
marked_start world mark done pattern acts tell = record {
  count = tell.count;
  right = λ a act text at asked same. any_left (λ p. MatchesFold p (chars text)) done pattern ((tell.tells a act text at asked).0 same);
  before = λ a act text at asked some. (tell.tells a act text at asked).1 some;
  tried = λ a act text at asked (k, below, is) matched. absurd (omega (arith, below));
}

pub marked_end : (world : WorldValue) (mark : Bool) (done : List (List Sign)) (pattern : List Sign) (numbers : List ℕ) (acts : List Bool)
    → TriesMatched world.actions pattern numbers → Marked world mark done pattern numbers acts → TellSome world mark (done ++ pattern ∷ []) acts
marked_end world mark done pattern numbers acts tries marked = record {
  count = marked.count;
  tells = λ a act text at asked. (
    λ same. marked.right a act text at asked same,
    λ some.
        elim (any_back (λ p. MatchesFold p (chars text)) done pattern some) [
          | inl before ↦ marked.before a act text at asked before
          | inr matched ↦ marked.tried a act text at asked (tries a text asked matched) matched
        ],
  );
}

-- one more of the numbers
pub one_tried : (numbers : List ℕ) (i a : ℕ) → i < length numbers → a ≡ get_or numbers i 0 → take i numbers ++ a ∷ [] ≡ take (i + 1) numbers
one_tried numbers i a below is = ap (λ n. take i numbers ++ n ∷ []) is ∙ sym (take_more numbers i 0 below)

-- one more of the patterns, as they are read
pub one_done : (patterns items : List (List Sign)) (i : ℕ) (pattern : List Sign) → items ≡ patterns → i < length items
    → pattern ≡ get_or items i pattern → take i patterns ++ pattern ∷ [] ≡ take (i + 1) patterns
one_done patterns items i pattern same below is =
    let P : List (List Sign) → Type 0 = λ ps. take i ps ++ pattern ∷ [] ≡ take (i + 1) ps in
    subst P same (ap (λ p. take i items ++ p ∷ []) is ∙ sym (take_more items i pattern below))

-- no pattern is done
pub none_done : (world : WorldValue) (mark : Bool) (acts : List Bool) → acts ≡ replicate (length world.actions) (not mark) → TellSome world mark [] acts
none_done world mark acts is = record {
  count = ap length is ∙ length-replicate (length world.actions) (not mark);
  tells = λ a act text at asked. (
    λ same.
        let R : List Bool → Type 0 = λ xs. slice_get xs a ≡ Some act in
        let here = subst R is at in
        let other = sym (get_or_from_slice_get (replicate (length world.actions) (not mark)) a act act here)
        ∙ get_or-replicate (length world.actions) a (not mark) act (slice_get_within world.actions a text asked) in
        absurd (unlike mark (sym same ∙ other)),
    λ (k, x, below, there, p). absurd (omega (arith, below)),
  );
}
  where
    unlike : (b : Bool) → b ≡ not b → ⊥
    unlike true e = cc
    unlike false e = cc

-- all patterns of an element are done
pub all_done : (world : WorldValue) (element : ActionElement) (acts : List Bool) → TellSome world (not element.negated) element.patterns acts
    → TellActs world element acts
all_done world element acts tell a act text at asked = go element.negated act (SomeMatches element.patterns text) (tell.tells a act text at asked)
  where
    go : (negated act : Bool) (S : Type 0) → (act ≡ not negated ↔ S) → IsTrue act ↔ MatchBool negated (¬ S) S
    go false act S both = both
    go true true S both = (λ told s. let wrong : true ≡ false = both.1 s in cc, λ no. refl)
    go true false S both = (λ told s. let wrong : false ≡ true = told in cc, λ no. absurd (no (both.0 refl)))

-- no action is marked
pub none_marked : (world : WorldValue) (element : ActionElement) (acts : List Bool) → length acts ≡ length world.actions → TellActs world element acts
    → list_any (λ act. beq act true) acts ≡ false → MatchesNone world element
none_marked world element acts count tell none k d below matched =
    let (act, at) = get_within acts k (let within : k < length acts = omega (arith, below, count) in within) in
    none_true acts k act none at ((tell k act (get_or world.actions k d) at (slice_get-get_or world.actions k d below)).1 matched)
  where
    none_true : (acts : List Bool) (k : ℕ) (act : Bool) → list_any (λ b. beq b true) acts ≡ false → slice_get acts k ≡ Some act → ¬ IsTrue act
    none_true [] k act none at told = let within = slice_get_within [] k act at in omega (arith, within)
    none_true (true ∷ acts) k act none at told = let wrong : true ≡ false = none in cc
    none_true (false ∷ acts) zero act none at told = let own : act ≡ false = cc in let is : act ≡ true = told in cc
    none_true (false ∷ acts) (suc k) act none at told = none_true acts k act none at told

-- none of the patterns so far matches an action of the world
abbrev pub MatchNone : WorldValue → List (List Sign) → Type 0
MatchNone world patterns = (a : ℕ) (text : List ℕ) → IsAction world a text → ¬ SomeMatches patterns text

pub no_pattern : (world : WorldValue) → MatchNone world []
no_pattern world a text asked (k, x, below, there, p) = omega (arith, below)

pub no_more : (world : WorldValue) (patterns : List (List Sign)) (pattern : List Sign)
    → ((a : ℕ) (text : List ℕ) → IsAction world a text → ¬ MatchesFold pattern (chars text)) → MatchNone world patterns
    → MatchNone world (patterns ++ pattern ∷ [])
no_more world patterns pattern idle none a text asked some =
    elim (any_back (λ p. MatchesFold p (chars text)) patterns pattern some) [ inl before ↦ none a text asked before | inr matched ↦ idle a text asked matched ]

pub none_at_all : (world : WorldValue) (element : ActionElement) → element.negated ≡ false → MatchNone world element.patterns → MatchesNone world element
none_at_all world element given none k d below =
    let text = get_or world.actions k d in
    let idle : ¬ SomeMatches element.patterns text = none k text (slice_get-get_or world.actions k d below) in
    let P : Bool → Type 0 = λ n. ¬ MatchBool n (¬ SomeMatches element.patterns text) (SomeMatches element.patterns text) in
    subst P (sym given) idle

-- none of the actions on which a pattern is tried is matched, so none is
pub none_tried : (world : WorldValue) (pattern : List Sign) (numbers : List ℕ) → TriesMatched world.actions pattern numbers
    → ((i : ℕ) (text : List ℕ) → i < length numbers → IsAction world (get_or numbers i 0) text → ¬ MatchesFold pattern (chars text))
    → (a : ℕ) (text : List ℕ) → IsAction world a text → ¬ MatchesFold pattern (chars text)
none_tried world pattern numbers tries idle a text asked matched =
    let (i, below, is) = tries a text asked matched in
    let A : ℕ → Type 0 = λ n. IsAction world n text in
    idle i text below (subst A (sym is ∙ get_or_default_zero numbers i a below) asked) matched
