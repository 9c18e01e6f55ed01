-- Texts of addresses and ranges: a slash stands in no address, and a text is at most one address, and at most one range.
use Rattle.std.proofs.Common.{◌≡◌, ◌≢◌, ℕ, ◌<◌, ◌≤◌, List, [], ◌∷◌, ◌++◌, Bool, true, false, Option, Some, None, MatchOption, Bor, refl, sym, ap, ◌∙◌, inl, inr, arith}
use Rattle.std.specs.Char.{digit_value}
use Rattle.std.specs.Fmt.{decimal}
use Rattle.std.specs.Net.Grammar.{IsDotted, IsGroup, IsGroupsAfter, IsIpText}
use Rattle.std.specs.declared.net.ip_addr.IpAddr.{IpAddr}
use Rattle.std.specs.declared.net.ip_addr.IpAddr.TheVariants.{V4, V6}
use Rattle.std.proofs.NetLemmas.Theorems.{IsIpText_unique}
use Rattle.std.proofs.lemmas.Fmt.{decimal_injective}
use Rattle.std.proofs.lemmas.List.Elements.{All-nil, All-cons, All-append, All-from_get_or}
use Rattle.std.proofs.lemmas.Str.Pattern.{IsSplitOnceResult, split_parts}
use Rattle.iam_value.specs.Reading.{IsReading}
use Rattle.iam_value.specs.Pieces.{IsCutAt, IsOctet, Lacks}
use Rattle.iam_value.specs.Address.{AddressBits, Block, bits_of, IsAddress, IsHost, IsNetwork, IsRange}
use Rattle.iam_value.proofs.Cuts.{at_cut, not_lacking, same_reading}
use Rattle.iam_value.proofs.Numerals.{digit_within}
use Rattle.iam_value.proofs.Octets.{octet_lacks}

-- `Lacks` of a slash, in a record so that the lists are read off a goal
record Plain (text : List ℕ) : Type 0 where
  lacks : Lacks 47 text

nil : Plain []
nil = record { lacks = All-nil (λ c. c ≢ 47) }

and : (xs ys : List ℕ) → Plain xs → Plain ys → Plain (xs ++ ys)
and xs ys left right = record { lacks = All-append (λ c. c ≢ 47) xs ys left.lacks right.lacks }

one : (c : ℕ) → c ≢ 47 → Plain (c ∷ [])
one c other = record { lacks = All-cons (λ c. c ≢ 47) c [] other (All-nil (λ c. c ≢ 47)) }

dot : Plain (46 ∷ [])
dot = one 46 (λ e. omega (arith, e))

colon : Plain (58 ∷ [])
colon = one 58 (λ e. omega (arith, e))

number : (n : ℕ) → n < 256 → Plain (decimal n)
number n small = record { lacks = octet_lacks 47 (decimal n) n (λ r. omega arith) (small, refl) }

dotted : (text octets : List ℕ) → IsDotted text octets → Plain text
dotted text octets is =
    let first = and _ _ (and _ _ (number is.a is.fit.0) dot) (number is.b is.fit.1) in
    let second = and _ _ (and _ _ first dot) (number is.c is.fit.2) in
    rw is.spelled (and _ _ (and _ _ second dot) (number is.d is.fit.3))

group : (text : List ℕ) (segment : ℕ) → IsGroup text segment → Plain text
group text segment is = record {
  lacks = All-from_get_or (λ c. c ≢ 47) text 0 (λ i inside e.
      let small = rw e at (digit_within 16 text i is.0.0.1 inside) in
      let large : 16 ≤ digit_value 47 = omega arith in
      omega (arith, small, large));
}

groups : (ipv4 : Bool) (lead text segments : List ℕ) → Plain lead → IsGroupsAfter ipv4 lead text segments → Plain text
groups ipv4 lead text [] start is = rw is nil
groups ipv4 lead text (s ∷ segments) start is = elim is [
  | inl w ↦ rw w.2 (and _ _ (and _ _ start (group w.0 s w.3)) (groups ipv4 (58 ∷ []) w.1 segments colon w.4))
  | inr w ↦ rw w.3 (and _ _ start (dotted w.0 w.1 w.4))
]

address : (text : List ℕ) (ip : IpAddr) → IsIpText text ip → Plain text
address text (V4 ip) is = dotted text _ is
address text (V6 ip) is = elim is [
  | inl w ↦ groups true [] text _ nil w.0
  | inr w ↦ rw w.spelled (and _ _ (and _ _ (groups false [] w.head_text w.head nil w.head_groups) (and _ _ colon colon)) (groups true [] w.tail_text w.tail nil w.tail_groups))
]

-- a slash stands in no address
address_lacks : (text : List ℕ) (bits : AddressBits) → IsAddress text bits → Lacks 47 text
address_lacks text bits is = (address text is.0 is.1).lacks

width : (ip : IpAddr) → (bits_of ip).width ≤ 128
width (V4 ip) = omega arith
width (V6 ip) = omega arith

width_small : (text : List ℕ) (bits : AddressBits) → IsAddress text bits → bits.width ≤ 128
width_small text bits is = rw is.2 (width is.0)

-- a text is at most one address
pub same_address : (text : List ℕ) (a b : AddressBits) → IsAddress text a → IsAddress text b → a ≡ b
same_address text a b left right = left.2 ∙ ap bits_of (IsIpText_unique text left.0 right.0 left.1 right.1) ∙ sym right.2

-- `split_once` at a slash cuts at the first one
pub slash_cut : (text : List ℕ) (parts : Option (Bor (List ℕ) × Bor (List ℕ))) → IsSplitOnceResult 47 text parts → MatchOption parts (Lacks 47 text) (λ p. IsCutAt 47 text p.0.now p.1.now)
slash_cut text None split = All-from_get_or (λ c. c ≢ 47) text 0 (split_parts 47 text None split (omega arith))
slash_cut text (Some p) split =
    let cut = split_parts 47 text (Some p) split (omega arith) in
    (cut.0, All-from_get_or (λ c. c ≢ 47) p.0.now 0 cut.1)

-- a range without a slash is an address
pub host_reading : (text : List ℕ) (answer : Option Block) → Lacks 47 text → IsReading answer (IsHost text) → IsReading answer (IsRange text)
host_reading text answer lacks = same_reading answer (IsHost text) (IsRange text)
    (λ range is. inl is)
    (λ range is. elim is [ inl w ↦ w | inr w ↦ absurd (not_lacking 47 text w.0 (decimal w.1) lacks w.3) ])

-- one with a slash is an address and a number of bits
pub range_cut : (text first back : List ℕ) (range : Block) → IsCutAt 47 text first back → IsRange text range → (n : ℕ) × IsNetwork first n range × IsOctet back n
range_cut text first back range cut is = elim is [
  | inl w ↦ absurd (not_lacking 47 text first back (address_lacks text range.address w.0) cut.0)
  | inr w ↦
      let a = at_cut 47 text first back w.0 (decimal w.1) cut w.3 (address_lacks w.0 range.address w.2.0) in
      (w.1, rw a.0 at w.2, (omega (arith, w.2.2, width_small w.0 range.address w.2.0), sym a.1))
]

pub network_reading : (text first back : List ℕ) (n : ℕ) (answer : Option Block) → IsCutAt 47 text first back → IsOctet back n → IsReading answer (IsNetwork first n) → IsReading answer (IsRange text)
network_reading text first back n answer cut octet = same_reading answer (IsNetwork first n) (IsRange text)
    (λ range is. inr (first, n, is, rw octet.1 at cut.0))
    (λ range is.
    let p = range_cut text first back range cut is in
    let same : p.0 ≡ n = decimal_injective p.0 n (omega (arith, p.2.0)) (omega (arith, octet.0)) (sym p.2.1 ∙ octet.1) in
    rw same at p.1)

same_block : (a b : Block) → a.address ≡ b.address → a.prefix ≡ b.prefix → a ≡ b
same_block a b address prefix = λ i. record { address = address i; prefix = prefix i }

-- and at most one range
pub same_range : (text : List ℕ) (a b : Block) → IsRange text a → IsRange text b → a ≡ b
same_range text a b left right = elim left [
  | inl v ↦ elim right [
    | inl w ↦ let one = same_address text a.address b.address v.0 w.0 in same_block a b one (v.1 ∙ ap (λ x. x.width) one ∙ sym w.1)
    | inr w ↦ absurd (not_lacking 47 text w.0 (decimal w.1) (address_lacks text a.address v.0) w.3)
  ]
  | inr v ↦
      let q = range_cut text v.0 (decimal v.1) b (v.3, address_lacks v.0 a.address v.2.0) right in
      let one = same_address v.0 a.address b.address v.2.0 q.1.0 in
      let length = decimal_injective v.1 q.0 (omega (arith, v.2.2, width_small v.0 a.address v.2.0)) (omega (arith, q.2.0)) q.2.1 in
      same_block a b one (v.2.1 ∙ length ∙ sym q.1.1)
]
