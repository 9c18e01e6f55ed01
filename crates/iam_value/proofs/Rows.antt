-- What the definitions say of a few texts, computed.
use Rattle.std.proofs.Common.{[], replicate, true, pos, neg_ℤ, codes, refl, inl, inr, arith}
use Rattle.iam_value.specs.Values.{IsTruth, IsWhole}
use Rattle.std.specs.Net.Addr.{ipv6_bits}
use Rattle.std.specs.declared.net.ip_addr.IpAddr.TheVariants.{V6}
use Rattle.iam_value.specs.Address.{IsAddress, Holds}

true_row : IsTruth (codes "TRUE") true
true_row = refl

zeros_row : IsWhole (codes "007") (pos 7)
zeros_row = (omega arith, (codes "007", (omega arith, (omega arith, (omega arith, (omega arith, tt)))), inl (refl, refl)))

minus_row : IsWhole (codes "-12") (neg_ℤ (pos 12))
minus_row = (omega arith, (codes "12", (omega arith, (omega arith, (omega arith, tt))), inr (refl, refl)))

-- `::` is eight groups of zeros
empty_row : IsAddress (codes "::") (record { width = 128; number = 0 })
unfolding ipv6_bits
empty_row = (
  V6 (record { segments = replicate 8 0 }),
  inr record {
    head_text = [];
    tail_text = [];
    head = [];
    tail = [];
    spelled = refl;
    head_groups = refl;
    tail_groups = refl;
    room = omega arith;
    value = refl;
  },
  refl,
)

-- 10.1.2.3/8 holds 10.200.0.1
held_row : Holds (record { address = record { width = 32; number = 0x0a010203 }; prefix = 8 }) (record { width = 32; number = 0x0ac80001 })
held_row = (refl, refl)
