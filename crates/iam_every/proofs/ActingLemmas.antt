-- What is kept of action elements tells of statements.
use Rattle.std.proofs.Common.{◌≡◌, ◌↔◌, ◌∷◌, [], ◌∙◌, ℕ, All, Bool, false, IsTrue, List, Option, Some, ap, map, subst, sym}
use Rattle.std.proofs.lemmas.Option.{get_or_from_slice_get}
use Rattle.std.specs.List.{AllZip, slice_get}
use Rattle.iam_element.specs.Reading.{ActionElement}
use Rattle.iam_match.specs.Statement.{ActionMatches}
use Rattle.iam_decision.specs.Matched.{Placed}
use Rattle.iam_every.specs.Code.Acting.{IsActing, IsActingFor, acts_in, bit_in}
use Rattle.iam_every.specs.Code.Picked.{ActsOn, TellEach}
use Rattle.iam_every.specs.declared.acting.ElementActs.{ElementActs}
use Rattle.iam_every.proofs.KnownLemmas.{all_at, zip_get}

one_tells : (known : List ElementActs) (actions : List (List ℕ)) (action : List ℕ) (i : ℕ) (s : Placed) (n : ℕ) → All (IsActing actions) known
    → slice_get actions i ≡ Some action → IsActingFor known s n → IsTrue (acts_in known i n) ↔ ActsOn action s
one_tells known actions action i s n all at (one, there, same) =
    let acting = all_at (IsActing actions) known n one all there in
    let (bit, there_bit, tells) = zip_get (λ a b. IsTrue b ↔ ActionMatches one.element.now a) actions one.acts.items i action acting at in
    let is : bit ≡ acts_in known i n =
    sym (ap (λ (o : Option ElementActs). bit_in o i) there ∙ get_or_from_slice_get one.acts.items i bit false there_bit) in
    subst (λ (b : Bool). IsTrue b ↔ ActsOn action s) is (subst (λ (e : ActionElement). IsTrue bit ↔ ActionMatches e action) same tells)

pub acts_tell : (known : List ElementActs) (actions : List (List ℕ)) (action : List ℕ) (i : ℕ) → All (IsActing actions) known
    → slice_get actions i ≡ Some action → (statements : List Placed) (numbers : List ℕ) → AllZip (IsActingFor known) statements numbers
    → TellEach (ActsOn action) statements (map (acts_in known i) numbers)
acts_tell known actions action i all at [] [] fit = tt
acts_tell known actions action i all at [] (n ∷ numbers) fit = absurd fit
acts_tell known actions action i all at (s ∷ statements) [] fit = absurd fit
acts_tell known actions action i all at (s ∷ statements) (n ∷ numbers) (one, rest) =
    (one_tells known actions action i s n all at one, acts_tell known actions action i all at statements numbers rest)
