-- Networks, ranges that hold them, and their halves.
use Rattle.std.proofs.Common.{◌≡◌, ◌∙◌, ◌⊎◌, ◌+◌, ◌-◌, ◌*◌, ◌/◌, ◌%◌, ◌^◌, ◌<◌, ◌≤◌, ℕ, List, ap, arith, inl, inr, pow_mono, subst, sym}
use Rattle.std.proofs.lemmas.Nat.{div-add-mod', shr-shr, shr_below}
use Rattle.iam_condition.specs.declared.operand.Operand.{Operand}
use Rattle.iam_open_changes.specs.Code.Implied.{AreHeld, HoldsAll, IsNetworkOf}
use Rattle.iam_open_changes.specs.declared.network.Network.{Network}
use Rattle.iam_value.specs.Address.{Block, first_bits}

-- a number that is less than 2 to the 128 has nothing before its last 128 bits
pub none_left : (n apart : ℕ) → n < 2 ^ 128 → 128 ≤ apart → 0 ≡ n / 2 ^ apart
none_left n apart below long =
    let more : 2 ^ 128 ≤ 2 ^ apart = pow_mono long in
    let small : n < 2 ^ apart = omega (arith, below, more) in
    let own : 0 + apart ≡ apart = omega arith in
    let none : n / 2 ^ apart < 1 = shr_below n 0 apart (subst (λ k. n < 2 ^ k) (sym own) small) in
    omega (arith, none)

pub is_network_of : (range : Block) (network : Network) → network.width ≡ range.address.width → network.prefix ≡ range.prefix
    → network.front ≡ range.address.number / 2 ^ (range.address.width - range.prefix) → IsNetworkOf range network
is_network_of range network width prefix front address (of_width, bits) = (
  width ∙ of_width,
  front ∙ bits ∙ ap (λ n. first_bits n address) (sym prefix),
)

pub holds_all : (range : Block) (network : Network) → network.prefix ≤ network.width → range.address.width ≡ network.width
    → range.prefix ≤ network.prefix
    → range.address.number / 2 ^ (network.width - range.prefix) ≡ network.front / 2 ^ (network.prefix - range.prefix) → HoldsAll range network
holds_all range network long width fewer fronts address (of_width, bits) =
    let m = network.width - network.prefix in
    let d = network.prefix - range.prefix in
    let split : network.width - range.prefix ≡ m + d = omega (arith, long, fewer) in
    let own : network.front ≡ address.number / 2 ^ m = bits ∙ ap (λ n. address.number / 2 ^ (n - network.prefix)) (sym of_width) in
    let more : network.front / 2 ^ d ≡ address.number / 2 ^ (network.width - range.prefix) =
    ap (λ n. n / 2 ^ d) own ∙ shr-shr address.number m d ∙ ap (λ n. address.number / 2 ^ n) (sym split) in (
      width ∙ of_width,
      ap (λ n. range.address.number / 2 ^ (n - range.prefix)) width ∙ fronts ∙ more
          ∙ ap (λ n. address.number / 2 ^ (n - range.prefix)) of_width,
    )

-- each address of a network is in its lower or in its upper half
halves : (c f : ℕ) → c / 2 ≡ f → (c ≡ f * 2) ⊎ (c ≡ f * 2 + 1)
halves c f is =
    let whole : f * 2 + c % 2 ≡ c = ap (λ n. n * 2 + c % 2) (sym is) ∙ div-add-mod' c 2 in
    elim (low (c % 2) (omega arith)) [ inl none ↦ inl (omega (arith, whole, none)) | inr one ↦ inr (omega (arith, whole, one)) ]
  where
    low : (n : ℕ) → n < 2 → (n ≡ 0) ⊎ (n ≡ 1)
    low n below = grind (arith, below)

pub held_by_halves : (network lower upper : Network) (values : List Operand) → network.prefix < network.width → lower.width ≡ network.width
    → upper.width ≡ network.width → lower.prefix ≡ network.prefix + 1 → upper.prefix ≡ network.prefix + 1
    → lower.front ≡ network.front * 2 → upper.front ≡ network.front * 2 + 1 → AreHeld lower values → AreHeld upper values → AreHeld network values
held_by_halves network lower upper values short width width' prefix prefix' front front' held held' address (of_width, bits) =
    let m = network.width - (network.prefix + 1) in
    let c = address.number / 2 ^ m in
    let split : network.width - network.prefix ≡ m + 1 = omega (arith, short) in
    let half : c / 2 ≡ network.front =
    shr-shr address.number m 1 ∙ ap (λ n. address.number / 2 ^ n) (sym split) ∙ ap (λ n. address.number / 2 ^ (n - network.prefix)) of_width ∙ sym bits in
    let at : first_bits (network.prefix + 1) address ≡ c = ap (λ n. address.number / 2 ^ (n - (network.prefix + 1))) (sym of_width) in
    elim (halves c network.front half) [
      | inl low ↦ held address (width ∙ of_width, front ∙ sym low ∙ sym at ∙ ap (λ n. first_bits n address) (sym prefix))
      | inr high ↦ held' address (width' ∙ of_width, front' ∙ sym high ∙ sym at ∙ ap (λ n. first_bits n address) (sym prefix'))
    ]
