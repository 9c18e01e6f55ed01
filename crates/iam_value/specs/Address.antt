-- Addresses of IPv4 and IPv6 as std reads them (RFC 4291 section 2.2), and ranges of either. The sign 47 is `/`.
-- LOGIC 8.5 and 8.6.
use Rattle.std.specs.Prelude.{◌≡◌, ◌⊎◌, ℕ, ◌-◌, ◌/◌, ◌^◌, ◌≤◌, List, ◌∷◌, ◌++◌}
use Rattle.std.specs.Fmt.{decimal}
use Rattle.std.specs.Net.Addr.{ipv4_bits, ipv6_bits}
use Rattle.std.specs.Net.Grammar.{IsIpText}
use Rattle.std.specs.declared.net.ip_addr.IpAddr.{IpAddr}
use Rattle.std.specs.declared.net.ip_addr.IpAddr.TheVariants.{V4, V6}

-- an address: how many bits its family has, 32 or 128, and the number that they make
pub record AddressBits : Type 0 where
  pub width : ℕ
  pub number : ℕ

-- a range: an address, and how many of its first bits count
pub record Block : Type 0 where
  pub address : AddressBits
  pub prefix : ℕ

-- the bits of an address of either family
abbrev pub bits_of : IpAddr → AddressBits
bits_of (V4 ip) = record { width = 32; number = ipv4_bits ip }
bits_of (V6 ip) = record { width = 128; number = ipv6_bits ip }

-- the text writes an IPv4 or an IPv6 address, and these are its bits
abbrev pub IsAddress : List ℕ → AddressBits → Type 0
IsAddress text address = (ip : IpAddr) × IsIpText text ip × (address ≡ bits_of ip)

-- an address, whose bits all count
abbrev pub IsHost : List ℕ → Block → Type 0
IsHost text range = IsAddress text range.address × (range.prefix ≡ range.address.width)

-- an address, of whose bits the first n count
abbrev pub IsNetwork : List ℕ → ℕ → Block → Type 0
IsNetwork text n range =
    IsAddress text range.address × (range.prefix ≡ n) × (n ≤ range.address.width)

-- an address alone, or an address, `/` and a number of bits without leading zeros
abbrev pub IsRange : List ℕ → Block → Type 0
IsRange text range =
    IsHost text range
    ⊎ ((first : List ℕ) × (n : ℕ) × IsNetwork first n range × (text ≡ first ++ 47 ∷ decimal n))

-- the first n bits of an address, as a number
abbrev pub first_bits : ℕ → AddressBits → ℕ
first_bits n address = address.number / 2 ^ (address.width - n)

-- the address is of the range's family, and agrees with it in the first bits
abbrev pub Holds : Block → AddressBits → Type 0
Holds range address =
    (range.address.width ≡ address.width)
    × (first_bits range.prefix range.address ≡ first_bits range.prefix address)
