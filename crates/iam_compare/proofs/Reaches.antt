-- How the cells of two worlds are dealt out among their requests.
use Rattle.std.proofs.Common.{◌≡◌, ℕ, ◌+◌, ◌-◌, ◌*◌, ◌/◌, ◌<◌, ◌≤◌, if◌then◌else◌, nat_lt, sym, ap, subst, ◌∙◌, ⊎_elim, arith}
use Rattle.std.proofs.lemmas.Bool.{cases_lt, le-ltb, lt-ltb}
use Rattle.std.proofs.lemmas.Nat.{le-div, mul-le}
use native.Mathlib.Nat.{div-mul-le_self}
use Rattle.iam_changes.specs.Code.Found.{reach}

pub reach_past : (first last count n : ℕ) → count ≤ n → reach first last count n ≡ first + last
reach_past first last count n past =
    ap (λ b. if b then (if nat_lt first n then first + (n - first) * last / (count - first) else n) else first + last) (le-ltb n count past)

pub reach_first : (first last count n : ℕ) → n < count → n ≤ first → reach first last count n ≡ n
reach_first first last count n below few =
    ap (λ b. if b then (if nat_lt first n then first + (n - first) * last / (count - first) else n) else first + last) (lt-ltb n count below)
    ∙ ap (λ b. if b then first + (n - first) * last / (count - first) else n) (le-ltb first n few)

reach_last : (first last count n : ℕ) → n < count → first < n → reach first last count n ≡ first + (n - first) * last / (count - first)
reach_last first last count n below more =
    ap (λ b. if b then (if nat_lt first n then first + (n - first) * last / (count - first) else n) else first + last) (lt-ltb n count below)
    ∙ ap (λ b. if b then first + (n - first) * last / (count - first) else n) (lt-ltb first n more)

div_up : (m n k : ℕ) → 0 < k → m ≤ n → m / k ≤ n / k
div_up m n k some up = le-div (m / k) n k some (let least = div-mul-le_self m k in omega (arith, least, up))

-- a later request has no fewer cells before it
reach_up : (first last count m n : ℕ) → m ≤ n → reach first last count m ≤ first + last → reach first last count m ≤ reach first last count n
reach_up first last count m n up few =
    ⊎_elim (λ below. before below) (λ past. subst (λ k. reach first last count m ≤ k) (sym (reach_past first last count n past)) few) (cases_lt n count)
  where
    before : n < count → reach first last count m ≤ reach first last count n
    before below =
        ⊎_elim
        (λ more.
        let value = reach_last first last count n below more in
        ⊎_elim
        (λ behind.
        let own = reach_last first last count m (omega (arith, up, below)) behind in
        let products = mul-le (m - first) last (n - first) last (omega (arith, up)) (omega arith) in
        let quotients = div_up ((m - first) * last) ((n - first) * last) (count - first) (omega (arith, below, more)) products in
        omega (arith, value, own, quotients))
        (λ early. let own = reach_first first last count m (omega (arith, up, below)) early in omega (arith, value, own, early))
        (cases_lt first m))
        (λ early.
        let value = reach_first first last count n below early in
        let own = reach_first first last count m (omega (arith, up, below)) (omega (arith, up, early)) in
        omega (arith, value, own, up))
        (cases_lt first n)

-- so too of the cells that were counted
pub counted_up : (first last count m n from to : ℕ) → from ≡ reach first last count m → to ≡ reach first last count n → m ≤ n → from ≤ first + last → from ≤ to
counted_up first last count m n from to e f up few =
    subst (λ k. from ≤ k) (sym f) (subst (λ k. k ≤ reach first last count n) (sym e) (reach_up first last count m n up (subst (λ k. k ≤ first + last) e few)))
