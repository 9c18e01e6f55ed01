-- A file of requests is read, or has one first faulty line.
use Rattle.std.proofs.Common.{◌≡◌, ◌≢◌, ◌⊎◌, ◌∙◌, inl, inr, ℕ, zero, suc, ◌<◌, ◌≤◌, Bool, false, IsTrue, List, [], ◌∷◌, ◌++◌, Some, ap, arith, get_or, length, refl, subst, sym, take, ⊎_elim}
use Rattle.std.specs.List.{AllZip, slice_get}
use Rattle.std.proofs.lemmas.Bool.{cases_lt}
use Rattle.std.proofs.lemmas.List.{take-take}
use Rattle.iam_context.specs.Context.{ContextValue, all_of}
use Rattle.iam_context.specs.ContextFault.{JoinFault, IsPartFault, part_has}
use Rattle.iam_context.specs.declared.fault.ContextFault.{ContextFault}
use Rattle.iam_context.specs.declared.fault.ContextFault.TheVariants as f
use Rattle.iam_layers.specs.Own.{IsFaultAt, given_with}
use Rattle.iam_world.specs.World.{PrincipalValue, ResourceValue, WorldValue}
use Rattle.iam_asked.specs.Fault.{IsLineFault, LineHasFault, SaidHasFault, fault_rank}
use Rattle.iam_asked.specs.File.{AreRead, AreRequests, IsFirstFaulty}
use Rattle.iam_asked.specs.Laws.{OneAsked}
use Rattle.iam_asked.specs.Request.{AskedValue, IsRequest, RequestsValue}
use Rattle.iam_asked.specs.Size.{AreLarge, AreSmall}
use Rattle.iam_asked.specs.declared.fault.FaultyLine.{FaultyLine}
use Rattle.iam_asked.specs.declared.fault.LineFault.{LineFault}
use Rattle.iam_asked.specs.declared.fault.LineFault.TheVariants.{NotJson, BadShape, NoPrincipal, SeveralPrincipals, NoAction, NoResource, SeveralResources, Context, TooMany, ContextsTooLarge, OutOfMemory}
use Rattle.iam_asked.proofs.KeysLemmas.{AreAmong, at_either, size_among}
use Rattle.iam_asked.proofs.Meanings.{no_fault, one_meaning, some_same}

-- ---- the lines before one, and their requests

at_taken : {X : Type 0} (xs : List X) (k n : ℕ) (x : X) → k < n → slice_get xs k ≡ Some x → slice_get (take n xs) k ≡ Some x
at_taken [] k n x few at = let wrong : ⊥ = cc in absurd wrong
at_taken (y ∷ xs) k zero x few at = absurd (omega (arith, few))
at_taken (y ∷ xs) zero (suc n) x few at = at
at_taken (y ∷ xs) (suc k) (suc n) x few at = at_taken xs k n x (omega (arith, few)) at

of_taken : {X : Type 0} (xs : List X) (k i : ℕ) (x : X) → slice_get (take k xs) i ≡ Some x → slice_get xs i ≡ Some x
of_taken [] zero i x at = at
of_taken [] (suc k) i x at = at
of_taken (y ∷ xs) zero i x at = let wrong : ⊥ = cc in absurd wrong
of_taken (y ∷ xs) (suc k) zero x at = at
of_taken (y ∷ xs) (suc k) (suc i) x at = of_taken xs k i x at

module _ (one_request : OneAsked) (world : WorldValue) where
  -- the requests of the lines before one are those before its own
  same_before : (lines : List (List ℕ)) (asked before : List AskedValue) (k : ℕ) → AllZip (IsRequest world) lines asked
      → AllZip (IsRequest world) (take k lines) before → before ≡ take k asked
  same_before [] [] [] zero one two = refl
  same_before [] [] [] (suc k) one two = refl
  same_before [] [] (b ∷ before) zero one two = absurd two
  same_before [] [] (b ∷ before) (suc k) one two = absurd two
  same_before [] (a ∷ asked) before k one two = absurd one
  same_before (line ∷ lines) [] before k one two = absurd one
  same_before (line ∷ lines) (a ∷ asked) [] zero one two = refl
  same_before (line ∷ lines) (a ∷ asked) (b ∷ before) zero one two = absurd two
  same_before (line ∷ lines) (a ∷ asked) [] (suc k) one two = absurd two
  same_before (line ∷ lines) (a ∷ asked) (b ∷ before) (suc k) one two =
      ap (λ it. it ∷ before) (one_request world line b a two.0 one.0) ∙ ap (λ them. a ∷ them) (same_before lines asked before k one.1 two.1)

  -- the request of a line
  request_at : (lines : List (List ℕ)) (asked : List AskedValue) (k : ℕ) (line : List ℕ) → AllZip (IsRequest world) lines asked → slice_get lines k ≡ Some line
      → (one : AskedValue) × (slice_get asked k ≡ Some one) × IsRequest world line one × (k < length asked)
  request_at [] asked k line all at = let wrong : ⊥ = cc in absurd wrong
  request_at (l ∷ lines) [] k line all at = absurd all
  request_at (l ∷ lines) (a ∷ asked) zero line all at =
      let same : l ≡ line = some_same l line at in
      (a, refl, subst (λ it. IsRequest world it a) same all.0, omega arith)
  request_at (l ∷ lines) (a ∷ asked) (suc k) line all at =
      let (one, there, is, inside) = request_at lines asked k line all.1 at in
      (one, there, is, omega (arith, inside))

  -- those before a line and its own are among all
  all_among : (asked : List AskedValue) (k : ℕ) (one : AskedValue) → slice_get asked k ≡ Some one → AreAmong (take k asked ++ one ∷ []) asked
  all_among asked k one at i it there = elim (at_either (take k asked) one it i there) [
    | inl here ↦ (i, of_taken asked k i it here)
    | inr (last, same) ↦ (k, at ∙ ap Some same)
  ]

not_both : (asked others : List AskedValue) → AreSmall others → AreLarge asked → ¬ AreAmong asked others
not_both asked others (size, one, few) (more, two, many) among =
    let most = size_among asked others more size two one among in
    omega (arith, most, few, many)

-- a line among those that are read has no fault
no_fault_at : (one_request : OneAsked) (lines : List (List ℕ)) (requests : RequestsValue) (before : List AskedValue) (k : ℕ) (line : List ℕ) (fault : LineFault) → AreRead lines requests
    → AreRequests (take k lines) (record { world = requests.world; asked = before }) → slice_get lines k ≡ Some line
    → ¬ LineHasFault (record { world = requests.world; asked = before }) line fault
no_fault_at one_request lines requests before k line fault read are at has =
    let world = requests.world in
    let (one, there, is, inside) = request_at one_request world lines requests.asked k line read.requests_are at in
    let same : before ≡ take k requests.asked = same_before one_request world lines requests.asked before k read.requests_are are in
    let upto : RequestsValue = record { world = world; asked = before } in
    elim (no_fault upto line one fault is has) [
      | inl many ↦ (
          let holds : LineHasFault upto line TooMany = subst (LineHasFault upto line) many has in
          let short : length before ≤ k = short_take before requests.asked k same in
          absurd (omega (arith, holds, short, inside, read.few))
          )
      | inr large ↦ (
          let (other, is', too_large) : LineHasFault upto line ContextsTooLarge = subst (LineHasFault upto line) large has in
          let own : other ≡ one = one_request world line other one is' is in
          let F : List AskedValue → AskedValue → Type 0 = λ them it. AreLarge (them ++ it ∷ []) in
          let here : F (take k requests.asked) one = subst (λ them. F them one) same (subst (F before) own too_large) in
          absurd (not_both (take k requests.asked ++ one ∷ []) requests.asked read.small here (all_among one_request world requests.asked k one there))
          )
    ]
  where
    short_take : (before asked : List AskedValue) (k : ℕ) → before ≡ take k asked → length before ≤ k
    short_take before asked k same = omega (arith, ap length same, taken asked k)
      where
        taken : (xs : List AskedValue) (n : ℕ) → length (take n xs) ≤ n
        taken [] zero = omega arith
        taken [] (suc n) = omega arith
        taken (x ∷ xs) zero = omega arith
        taken (x ∷ xs) (suc n) = omega (arith, taken xs n)

pub no_fault_of_read : (one_request : OneAsked) (lines : List (List ℕ)) (requests : RequestsValue) (faulty : FaultyLine) → AreRead lines requests
    → ¬ IsFirstFaulty requests.world lines faulty
no_fault_of_read one_request lines requests faulty read first =
    no_fault_at one_request lines requests first.before faulty.line first.line faulty.fault read first.read.requests_are first.at first.is.holds

-- ---- one first faulty line

-- no faulty line comes before another
not_before : (one_request : OneAsked) (world : WorldValue) (lines : List (List ℕ)) (faulty other : FaultyLine) → IsFirstFaulty world lines faulty → IsFirstFaulty world lines other
    → ¬ (faulty.line < other.line)
not_before one_request world lines faulty other one two less =
    let upto : RequestsValue = record { world = world; asked = two.before } in
    let are : AreRequests (take faulty.line (take other.line lines)) (record { world = world; asked = one.before }) =
    subst (λ them. AreRequests them (record { world = world; asked = one.before })) (sym (take-take faulty.line other.line lines (omega (arith, less))))
    one.read.requests_are in
    no_fault_at one_request (take other.line lines) upto one.before faulty.line one.line faulty.fault two.read are
    (at_taken lines faulty.line other.line one.line less one.at) one.is.holds

one_context_fault : (world : WorldValue) (p r : ℕ) (own : ContextValue) (fault other : ContextFault) → IsFaultAt world p r own fault → IsFaultAt world p r own other
    → fault ≡ other
one_context_fault world p r own fault other (principal, at, (resource, there, one)) (principal', at', (resource', there', two)) =
    let who : principal' ≡ principal = some_same principal' principal (sym at' ∙ at) in
    let what : resource' ≡ resource = some_same resource' resource (sym there' ∙ there) in
    let F : PrincipalValue → ResourceValue → Type 0 = λ x y. JoinFault (given_with world x y own) other in
    let same : F principal resource = subst (F principal) what (subst (λ x. F x resource') who two) in
    by fault other one same
  where
    is_both : (b : Bool) → IsTrue b → b ≡ false → ⊥
    is_both b holds fails = let wrong : ⊥ = cc in wrong

    by : (a b : ContextFault) → IsPartFault [] (all_of (given_with world principal resource own)) a
        → IsPartFault [] (all_of (given_with world principal resource own)) b → a ≡ b
    by f.KeyTwice f.KeyTwice one two = refl
    by f.KeyTwice f.DerivedKeyGiven one two = absurd (is_both (part_has [] (all_of (given_with world principal resource own)) f.KeyTwice) one.holds (two.least refl))
    by f.DerivedKeyGiven f.KeyTwice one two = absurd (is_both (part_has [] (all_of (given_with world principal resource own)) f.KeyTwice) two.holds (one.least refl))
    by f.DerivedKeyGiven f.DerivedKeyGiven one two = refl
    by f.OutOfMemory b one two = absurd (is_both false one.holds refl)
    by f.KeyTwice f.OutOfMemory one two = absurd (is_both false two.holds refl)
    by f.DerivedKeyGiven f.OutOfMemory one two = absurd (is_both false two.holds refl)

-- the fault of a rank, where it is no fault of a context
abbrev of_rank : ℕ → LineFault
of_rank rank =
    get_or
    (
    TooMany ∷ NotJson ∷ BadShape ∷ NoPrincipal ∷ SeveralPrincipals ∷ NoAction ∷ NoResource ∷ SeveralResources ∷ OutOfMemory ∷ OutOfMemory ∷ ContextsTooLarge
    ∷ []
    )
    rank OutOfMemory

abbrev IsPlain : LineFault → Type 0
IsPlain fault = (fault ≡ of_rank (fault_rank fault)) × (fault_rank fault ≢ 8)

plain_or : (fault : LineFault) → IsPlain fault ⊎ ((it : ContextFault) × (fault ≡ Context it))
plain_or NotJson = inl (refl, λ e. omega (arith, e))
plain_or BadShape = inl (refl, λ e. omega (arith, e))
plain_or NoPrincipal = inl (refl, λ e. omega (arith, e))
plain_or SeveralPrincipals = inl (refl, λ e. omega (arith, e))
plain_or NoAction = inl (refl, λ e. omega (arith, e))
plain_or NoResource = inl (refl, λ e. omega (arith, e))
plain_or SeveralResources = inl (refl, λ e. omega (arith, e))
plain_or (Context it) = inr (it, refl)
plain_or TooMany = inl (refl, λ e. omega (arith, e))
plain_or ContextsTooLarge = inl (refl, λ e. omega (arith, e))
plain_or OutOfMemory = inl (refl, λ e. omega (arith, e))

one_context : (before : RequestsValue) (line : List ℕ) (it other : ContextFault) → LineHasFault before line (Context it) → LineHasFault before line (Context other)
    → it ≡ other
one_context before line it other (said, says, (p, r, who, what, some, one)) (said', says', (p', r', who', what', some', two)) =
    let world = before.world in
    let same : said' ≡ said = one_meaning line said' said says' says in
    let (p2, r2, who2, what2, some2, here) : SaidHasFault world said (Context other) =
    subst (λ x. SaidHasFault world x (Context other)) same (p', r', who', what', some', two) in
    let F : ℕ → ℕ → Type 0 = λ x y. IsFaultAt world x y said.own other in
    one_context_fault world p r said.own it other one (subst (F p) (what.1 r2 what2.0) (subst (λ x. F x r2) (who.1 p2 who2.0) here))

-- a line has one least fault
one_line_fault : (before : RequestsValue) (line : List ℕ) (fault other : LineFault) → IsLineFault before line fault → IsLineFault before line other → fault ≡ other
one_line_fault before line fault other one two = by (plain_or fault) (plain_or other)
  where
    rank : fault_rank fault ≡ fault_rank other
    rank = omega (arith, one.least other two.holds, two.least fault one.holds)

    by : IsPlain fault ⊎ ((it : ContextFault) × (fault ≡ Context it)) → IsPlain other ⊎ ((it : ContextFault) × (other ≡ Context it)) → fault ≡ other
    by (inl (is, plain)) (inl (is', plain')) = is ∙ ap of_rank rank ∙ sym is'
    by (inl (is, plain)) (inr (it, e)) = absurd (plain (rank ∙ ap fault_rank e))
    by (inr (it, e)) (inl (is', plain')) = absurd (plain' (sym rank ∙ ap fault_rank e))
    by (inr (it, e)) (inr (it', e')) =
        let both = one_context before line it it' (subst (LineHasFault before line) e one.holds) (subst (LineHasFault before line) e' two.holds) in
        e ∙ ap Context both ∙ sym e'

faulty_same : (one other : FaultyLine) → one.line ≡ other.line → one.fault ≡ other.fault → one ≡ other
faulty_same one other line fault =
    ap (λ x. record { line = x; fault = one.fault }) line ∙ ap (λ x. record { line = other.line; fault = x }) fault

pub one_first_faulty : (one_request : OneAsked) (world : WorldValue) (lines : List (List ℕ)) (faulty other : FaultyLine) → IsFirstFaulty world lines faulty
    → IsFirstFaulty world lines other → faulty ≡ other
one_first_faulty one_request world lines faulty other one two =
    let place : faulty.line ≡ other.line =
    ⊎_elim (λ less. absurd (not_before one_request world lines faulty other one two less))
    (
    λ upto.
    ⊎_elim (λ more. absurd (not_before one_request world lines other faulty two one more)) (λ downto. omega (arith, upto, downto))
    (cases_lt other.line faulty.line)
    )
    (cases_lt faulty.line other.line) in
    let line : one.line ≡ two.line = some_same one.line two.line (sym one.at ∙ ap (slice_get lines) place ∙ two.at) in
    let before : one.before ≡ two.before =
    same_lists world (take faulty.line lines) one.before two.before one.read.requests_are
    (subst (λ n. AllZip (IsRequest world) (take n lines) two.before) (sym place) two.read.requests_are) in
    let F : List AskedValue → List ℕ → LineFault → Type 0 = λ them it fault. IsLineFault (record { world = world; asked = them }) it fault in
    let here : F one.before one.line other.fault =
    subst (λ them. F them one.line other.fault) (sym before) (subst (λ it. F two.before it other.fault) (sym line) two.is) in
    faulty_same faulty other place (one_line_fault (record { world = world; asked = one.before }) one.line faulty.fault other.fault one.is here)
  where
    same_lists : (world : WorldValue) (them : List (List ℕ)) (xs ys : List AskedValue) → AllZip (IsRequest world) them xs → AllZip (IsRequest world) them ys
        → xs ≡ ys
    same_lists world [] [] [] one two = refl
    same_lists world [] [] (y ∷ ys) one two = absurd two
    same_lists world [] (x ∷ xs) ys one two = absurd one
    same_lists world (l ∷ them) [] ys one two = absurd one
    same_lists world (l ∷ them) (x ∷ xs) [] one two = absurd two
    same_lists world (l ∷ them) (x ∷ xs) (y ∷ ys) one two =
        ap (λ it. it ∷ xs) (one_request world l x y one.0 two.0) ∙ ap (λ rest. y ∷ rest) (same_lists world them xs ys one.1 two.1)
