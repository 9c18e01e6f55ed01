-- What the code reads of lines, texts and groups.
use Rattle.std.proofs.Common.{◌≡◌, ◌<◌, ◌+◌, ◌∷◌, [], ◌∙◌, ◌||◌, ◌⊎◌, inl, inr, ℕ, Bool, true, false, Contains, List, MatchOption, None, Option, Some, arith, ap, cond, get_or, is_some, length, map, refl, subst, sym, take}
use Rattle.std.specs.Bool.{Decides, one_answer}
use Rattle.std.specs.List.{list_any}
use Rattle.std.specs.Str.{bytes_eq}
use Rattle.std.proofs.lemmas.List.{length-map}
use Rattle.std.proofs.lemmas.List.Folds.{list_any_more}
use Rattle.std.proofs.lemmas.Slice.Eq.{bytes_eq-Decides}
use Rattle.iam_glob.specs.declared.sign.Sign.{Sign}
use Rattle.iam_layers.specs.Unnamed.{IsThere}
use Rattle.iam_every.specs.Every.{LineValue, line_of, patterns_of}
use Rattle.iam_every.specs.declared.asked.Line.{Line}
use Rattle.iam_every.specs.Code.Rows.{IsFirstOf}
use Rattle.iam_every.proofs.LineLemmas.{first_some, line_has, line_read, line_there}
use Rattle.iam_every.proofs.ListLemmas.{behind, first_or, here, none}
use Rattle.iam_every_changes.specs.Code.Given.{IsGiven}
use Rattle.iam_every_changes.specs.Made.{IsAsked}
use Rattle.iam_every_changes.specs.Code.Scenes.{AreLineScenes, AreScenesOf}
use Rattle.iam_every_changes.specs.States.{both_of}
use Rattle.iam_every_changes.specs.declared.given.Given.{Given}
use Rattle.iam_every_changes.specs.declared.scene.Scenes.{Scenes}

-- ---- lines
patterns_long : (lines : List Line) → length (patterns_of (map line_of lines)) ≡ length lines
patterns_long lines = length-map (map line_of lines) (λ (x : LineValue). x.pattern) ∙ length-map lines line_of

-- both states have line k
pub before_line : (given : Given) (k : ℕ) → IsGiven given → k < length given.both.after.asked.lines.now → k < length given.both.before.asked.lines.now
before_line given k is below =
    let same = ap (λ (l : List (List Sign)). length l) is.both.patterns in
    omega (arith, below, same, patterns_long given.both.before.asked.lines.now, patterns_long given.both.after.asked.lines.now)

pub was_there : (given : Given) (k : ℕ) (d : Line) → IsGiven given → k < length given.both.after.asked.lines.now
    → IsThere given.both.before.asked.world.now (get_or given.both.before.asked.lines.now k d).unnamed
was_there given k d is below =
    line_has (λ line. IsThere given.both.before.asked.world.now line.unnamed) given.both.before.asked.lines.now k d is.both.before.there
    (before_line given k is below)

pub now_there : (given : Given) (k : ℕ) (d : Line) → IsGiven given → k < length given.both.after.asked.lines.now
    → IsThere given.both.after.asked.world.now (get_or given.both.after.asked.lines.now k d).unnamed
now_there given k d is below =
    line_has (λ line. IsThere given.both.after.asked.world.now line.unnamed) given.both.after.asked.lines.now k d is.both.after.there below

pub scenes_at : (given : Given) (k : ℕ) (d e : Line) (scenes : Scenes) → IsGiven given → k < length given.both.after.asked.lines.now
    → AreLineScenes given k scenes
    → AreScenesOf (both_of given.both) (get_or given.both.before.asked.lines.now k d).unnamed (get_or given.both.after.asked.lines.now k e).unnamed scenes
scenes_at given k d e scenes is below are =
    are (line_of (get_or given.both.before.asked.lines.now k d)) (line_of (get_or given.both.after.asked.lines.now k e))
    (line_read given.both.before.asked.lines.now k d (before_line given k is below)) (line_read given.both.after.asked.lines.now k e below)

-- ---- texts that stand before
flipped : (a b : List ℕ) → bytes_eq a b ≡ bytes_eq b a
flipped a b =
    let back : Decides (bytes_eq b a) (a ≡ b) = (λ h. sym ((bytes_eq-Decides b a).0 h), λ e. (bytes_eq-Decides b a).1 (sym e)) in
    one_answer (bytes_eq a b) (bytes_eq b a) (bytes_eq-Decides a b) back

either_way : (a b : Bool) → cond a true b ≡ (b || a)
either_way true true = refl
either_way true false = refl
either_way false true = refl
either_way false false = refl

-- one more text is known
pub seen_more : (texts : List (List ℕ)) (i : ℕ) (key : List ℕ) (old new : List ℕ → Bool) → i < length texts → key ≡ get_or texts i key
    → ((q : List ℕ) → old q ≡ list_any (bytes_eq q) (take i texts)) → ((q : List ℕ) → new q ≡ cond (bytes_eq key q) true (old q))
    → (q : List ℕ) → new q ≡ list_any (bytes_eq q) (take (i + 1) texts)
seen_more texts i key old new below is before put q =
    put q ∙ either_way (bytes_eq key q) (old q) ∙ ap (λ b. b || bytes_eq key q) (before q)
    ∙ ap (λ b. list_any (bytes_eq q) (take i texts) || b) (flipped key q ∙ ap (bytes_eq q) is) ∙ sym (list_any_more (bytes_eq q) texts i key below)

pub of_any : (texts : List (List ℕ)) (text : List ℕ) → list_any (bytes_eq text) texts ≡ true → Contains texts text
of_any [] text h = absurd (let wrong : ⊥ = cc in wrong)
of_any (x ∷ xs) text h = by_test (λ rest. of_any xs text rest) (bytes_eq text x) refl h
  where
    by_test : (list_any (bytes_eq text) xs ≡ true → Contains xs text) → (b : Bool) → bytes_eq text x ≡ b → (b || list_any (bytes_eq text) xs) ≡ true → Contains (x ∷ xs) text
    by_test more true e h = subst (Contains (x ∷ xs)) (sym ((bytes_eq-Decides text x).0 e)) (here x xs)
    by_test more false e h = behind x text xs (more h)

pub any_of : (texts : List (List ℕ)) (text : List ℕ) → Contains texts text → list_any (bytes_eq text) texts ≡ true
any_of [] text among = absurd (none text among)
any_of (x ∷ xs) text among = elim (first_or x text xs among) [
  | inl same ↦ either_true (bytes_eq text x) (list_any (bytes_eq text) xs) (inl ((bytes_eq-Decides text x).1 (sym same)))
  | inr later ↦ either_true (bytes_eq text x) (list_any (bytes_eq text) xs) (inr (any_of xs text later))
]
  where
    either_true : (a b : Bool) → (a ≡ true) ⊎ (b ≡ true) → (a || b) ≡ true
    either_true true b h = refl
    either_true false b (inl h) = absurd (let wrong : ⊥ = cc in wrong)
    either_true false b (inr h) = h

-- ---- lines that are found
pub asked_if : (lines : List LineValue) (text : List ℕ) (found : Option ℕ)
    → MatchOption found (¬ IsAsked lines text) (λ k. IsFirstOf lines text k) → is_some found ≡ true → IsAsked lines text
asked_if lines text None told is = absurd (let wrong : ⊥ = cc in wrong)
asked_if lines text (Some k) (line, first) is = first_some lines text k line first

pub unasked_if : (lines : List LineValue) (text : List ℕ) (found : Option ℕ)
    → MatchOption found (¬ IsAsked lines text) (λ k. IsFirstOf lines text k) → is_some found ≡ false → ¬ IsAsked lines text
unasked_if lines text None told is = told
unasked_if lines text (Some k) told is = absurd (let wrong : ⊥ = cc in wrong)

-- the scenes of the lines that are read are those of line k
pub line_scenes : (given : Given) (k : ℕ) (d e : Line) (scenes : Scenes)
    → AreScenesOf (both_of given.both) (get_or given.both.before.asked.lines.now k d).unnamed (get_or given.both.after.asked.lines.now k e).unnamed scenes
    → AreLineScenes given k scenes
line_scenes given k d e scenes are was now was_at now_at =
    let old = line_there given.both.before.asked.lines.now k d was was_at in
    let new = line_there given.both.after.asked.lines.now k e now now_at in
    subst (λ (b : LineValue). AreScenesOf (both_of given.both) was.unnamed b.unnamed scenes) new
    (subst (λ (a : LineValue). AreScenesOf (both_of given.both) a.unnamed (get_or given.both.after.asked.lines.now k e).unnamed scenes) old are)
