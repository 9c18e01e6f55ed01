-- Two worlds have one list of requests, and a world at most one first text that stands twice.
use Rattle.std.proofs.Common.{◌≡◌, ℕ, ◌+◌, ◌<◌, ◌++◌, List, MatchOption, Option, Some, None, get_or, length, refl, sym, ap, subst, ◌∙◌, ⊎_elim, arith}
use Rattle.std.proofs.lemmas.Bool.{cases_lt}
use Rattle.std.proofs.lemmas.List.{same_lists}
use Rattle.std.proofs.lemmas.Option.{slice_get-get_or}
use Rattle.iam_layers.specs.Cell.{principal_text}
use Rattle.iam_layers.specs.Laws.{OneTriple}
use Rattle.iam_world.specs.World.{ResourceValue, WorldValue}
use Rattle.iam_row.specs.Report.{CellTexts, HasTexts, IsCellTexts}
use Rattle.iam_changes.specs.RequestLaws.{OneCount, OneRequests, OneTwice}
use Rattle.iam_changes.specs.Lists.{somes}
use Rattle.iam_changes.specs.Requests.{AreOfCells, IsUnlessHad}
use Rattle.iam_changes.specs.Twice.{IsApart, IsFirstTwice, StandOnce, StandsBefore, axis_number, axis_texts}
use Rattle.iam_changes.specs.declared.twice.Axis.{Axis}
use Rattle.iam_changes.specs.declared.twice.Axis.TheVariants.{Principals, Actions, Resources}
use Rattle.iam_changes.specs.declared.twice.Twice.{Twice}
use Rattle.iam_changes.proofs.Places.{texts_there}

-- a request has one text of each
same_texts : (world : WorldValue) (p a r : ℕ) (t u : CellTexts) → HasTexts world p a r t → HasTexts world p a r u → t ≡ u
same_texts world p a r t u h k =
    let (principal, p_at, p_is) = h.principal in
    let (other, q_at, q_is) = k.principal in
    let (resource, r_at, r_is) = h.resource in
    let (another, s_at, s_is) = k.resource in
    let one : principal ≡ other = cc in
    let two : resource ≡ another = cc in
    let action : t.action ≡ u.action = let h_at = h.action in let k_at = k.action in cc in
    let texts : List ℕ → List ℕ → List ℕ → CellTexts = λ x y z. record { principal = x; action = y; resource = z } in
    ap (λ x. texts x t.action t.resource) (p_is ∙ ap principal_text one ∙ sym q_is) ∙ ap (λ y. texts u.principal y t.resource) action
    ∙ ap (λ z. texts u.principal u.action z) (r_is ∙ ap (λ (x : ResourceValue). x.arn) two ∙ sym s_is)

-- a cell has one request
pub one_texts : OneTriple → (world : WorldValue) (cell : ℕ) (t u : CellTexts) → IsCellTexts world cell t → IsCellTexts world cell u → t ≡ u
one_texts triples world cell t u (p, a, r, is, has) of =
    same_texts world p a r t u has (texts_there triples world cell p a r u is of)

-- one entry for each cell, where the texts of its request tell which
pub one_of_cells : {X : Type 0} → OneTriple → (world : WorldValue) (Is : CellTexts → X → Type 0) → ((texts : CellTexts) (x y : X) → Is texts x → Is texts y → x ≡ y)
    → (xs ys : List X) → AreOfCells world Is xs → AreOfCells world Is ys → xs ≡ ys
one_of_cells {X} triples world Is one xs ys h k =
    same_lists xs ys (h.count ∙ sym k.count)
    (λ i d below.
    let inside : i < length ys = omega (arith, below, h.count, k.count) in
    let (t, of_t, is_t) = h.each i (get_or xs i d) (slice_get-get_or xs i d below) in
    let (u, of_u, is_u) = k.each i (get_or ys i d) (slice_get-get_or ys i d inside) in
    let same = one_texts triples world (0 + i) t u of_t of_u in
    one u (get_or xs i d) (get_or ys i d) (subst (λ (v : CellTexts). Is v (get_or xs i d)) same is_t) is_u)

one_unless : (world : WorldValue) (texts : CellTexts) (x y : Option CellTexts) → IsUnlessHad world texts x → IsUnlessHad world texts y → x ≡ y
one_unless world texts None None h k = refl
one_unless world texts None (Some y) h (e, absent) = absurd (absent h)
one_unless world texts (Some x) None (e, absent) k = absurd (absent k)
one_unless world texts (Some x) (Some y) (e, absent) (f, missing) = ap Some (e ∙ sym f)

pub one_requests : OneTriple → OneRequests
one_requests triples before after requests others (firsts, lasts, of_firsts, of_lasts, is) (heads, tails, of_heads, of_tails, are) =
    let first = one_of_cells triples after (λ texts request. request ≡ texts) (λ texts x y e f. e ∙ sym f) firsts heads of_firsts of_heads in
    let last = one_of_cells triples before (IsUnlessHad after) (one_unless after) lasts tails of_lasts of_tails in
    is ∙ ap (λ xs. xs ++ somes lasts) first ∙ ap (λ ys. heads ++ somes ys) last ∙ sym are

pub one_count : OneTriple → OneCount
one_count triples before after count other (requests, are, is) (others, too, same) =
    is ∙ ap (λ (xs : List CellTexts). length xs) (one_requests triples before after requests others are too) ∙ sym same

-- ---- texts that stand twice

one_axis : (a b : Axis) → axis_number a ≡ axis_number b → a ≡ b
one_axis Principals Principals e = refl
one_axis Principals Actions e = absurd (let wrong : ⊥ = cc in wrong)
one_axis Principals Resources e = absurd (let wrong : ⊥ = cc in wrong)
one_axis Actions Principals e = absurd (let wrong : ⊥ = cc in wrong)
one_axis Actions Actions e = refl
one_axis Actions Resources e = absurd (let wrong : ⊥ = cc in wrong)
one_axis Resources Principals e = absurd (let wrong : ⊥ = cc in wrong)
one_axis Resources Actions e = absurd (let wrong : ⊥ = cc in wrong)
one_axis Resources Resources e = refl

same_numbers : (m n : ℕ) → ¬ (m < n) → ¬ (n < m) → m ≡ n
same_numbers m n h k = ⊎_elim (λ less. absurd (h less)) (λ most. ⊎_elim (λ more. absurd (k more)) (λ least. omega (arith, most, least)) (cases_lt n m)) (cases_lt m n)

abbrev twice_of : Axis → ℕ → Twice
twice_of axis number = record { axis = axis; number = number }

one_number : (world : WorldValue) (axis : Axis) (m n : ℕ) → IsFirstTwice world (twice_of axis m) → IsFirstTwice world (twice_of axis n) → m ≡ n
one_number world axis m n h k = same_numbers m n (λ less. k.first m less h.stands) (λ more. h.first n more k.stands)

pub one_first : OneTwice
one_first world twice other h k =
    let axes : twice.axis ≡ other.axis = one_axis twice.axis other.axis
    (same_numbers (axis_number twice.axis) (axis_number other.axis) (λ less. k.others twice.axis less twice.number h.stands) (λ more. h.others other.axis more other.number k.stands)) in
    let here = subst (λ (axis : Axis). IsFirstTwice world (twice_of axis twice.number)) axes h in
    ap (λ (axis : Axis). twice_of axis twice.number) axes ∙ ap (twice_of other.axis) (one_number world other.axis twice.number other.number here k)

-- ---- the first of a world

-- the first place of a text that stands again on an axis
abbrev pub Again : WorldValue → Axis → Twice → Type 0
Again world axis twice =
    (twice.axis ≡ axis) × StandsBefore (axis_texts axis world) twice.number × ((n : ℕ) → n < twice.number → ¬ StandsBefore (axis_texts axis world) n)

first_on : (world : WorldValue) (axis : Axis) (twice : Twice) → Again world axis twice → ((other : Axis) → axis_number other < axis_number axis → StandOnce (axis_texts other world))
    → IsFirstTwice world twice
first_on world axis twice (is, stands, first) others = record {
  stands = subst (λ (a : Axis). StandsBefore (axis_texts a world) twice.number) (sym is) stands;
  first = subst (λ (a : Axis). (n : ℕ) → n < twice.number → ¬ StandsBefore (axis_texts a world) n) (sym is) first;
  others = subst (λ (a : Axis). (other : Axis) → axis_number other < axis_number a → StandOnce (axis_texts other world)) (sym is) others;
}

before_actions : (world : WorldValue) → StandOnce (axis_texts Principals world) → (other : Axis) → axis_number other < 1 → StandOnce (axis_texts other world)
before_actions world principals Principals less = principals
before_actions world principals Actions less = absurd (omega (arith, less))
before_actions world principals Resources less = absurd (omega (arith, less))

before_resources : (world : WorldValue) → StandOnce (axis_texts Principals world) → StandOnce (axis_texts Actions world) → (other : Axis) → axis_number other < 2
    → StandOnce (axis_texts other world)
before_resources world principals actions Principals less = principals
before_resources world principals actions Actions less = actions
before_resources world principals actions Resources less = absurd (omega (arith, less))

apart : (world : WorldValue) → StandOnce (axis_texts Principals world) → StandOnce (axis_texts Actions world) → StandOnce (axis_texts Resources world) → IsApart world
apart world principals actions resources Principals = principals
apart world principals actions resources Actions = actions
apart world principals actions resources Resources = resources

pub first_principal : (world : WorldValue) (twice : Twice) → Again world Principals twice → IsFirstTwice world twice
first_principal world twice again = first_on world Principals twice again (λ other less. absurd (omega (arith, less)))

pub first_action : (world : WorldValue) (twice : Twice) → StandOnce (axis_texts Principals world) → Again world Actions twice → IsFirstTwice world twice
first_action world twice principals again = first_on world Actions twice again (before_actions world principals)

pub first_resource : (world : WorldValue) → StandOnce (axis_texts Principals world) → StandOnce (axis_texts Actions world) → (found : Option Twice)
    → MatchOption found (StandOnce (axis_texts Resources world)) (Again world Resources) → MatchOption found (IsApart world) (IsFirstTwice world)
first_resource world principals actions None once = apart world principals actions once
first_resource world principals actions (Some twice) again = first_on world Resources twice again (before_resources world principals actions)
