-- The ARN of a user or a role by its parts.
use Rattle.std.proofs.Common.{◌≡◌, ℕ, ◌+◌, List, [], ◌∷◌, ◌++◌, Bool, true, false, ◌&&◌, ◌==◌, cond, None, length, refl, sym, ap, ◌∙◌, codes, eqb-true}
use Rattle.std.proofs.lemmas.Bool.{and_parts}
use Rattle.std.proofs.lemmas.List.Recursion.{is_count_by}
use Rattle.std.proofs.lemmas.List.{append_cancel_left, nil_from_length}
use Rattle.std.proofs.lemmas.Slice.Eq.{bytes_eq-Decides}
use Rattle.std.specs.Bool.{Decides}
use Rattle.std.specs.Str.{bytes_eq}
use Rattle.std.specs.List.{list_all}
use Rattle.std.specs.Char.{is_ascii_digit}
use Rattle.iam_text.specs.Arn.{IsArn, HasNoColon}
use Rattle.iam_text.specs.Characters.{is_account, is_label, is_label_character}
use Rattle.iam_context.specs.Requester.{RequesterValue}
use Rattle.iam_context.specs.Code.ArnParts.{HasParts, path_from, is_of_account}
use Rattle.iam_context.proofs.PathLemmas.{path_test}

same_text : (a b : List ℕ) → bytes_eq a b ≡ true → a ≡ b
same_text a b e = let decided : Decides (bytes_eq a b) (a ≡ b) = bytes_eq-Decides a b in decided.0 e

-- the six parts of the ARN, its word before the path
abbrev pub parts_of : List ℕ → RequesterValue → List (List ℕ)
parts_of word r = codes "arn" ∷ (r.partition ∷ (codes "iam" ∷ ([] ∷ (r.account ∷ ((word ++ r.path) ∷ [])))))

-- the colons, counted from the front
abbrev count : List ℕ → ℕ
count [] = 0
count (c ∷ text) = cond (c == 58) (1 + count text) (count text)

-- characters of which none is a colon
colons_none : (test : ℕ → Bool) → test 58 ≡ false → (text : List ℕ) → list_all test text ≡ true → count text ≡ 0
colons_none test never [] all = refl
colons_none test never (c ∷ text) all =
    let both = and_parts (test c) (list_all test text) all in
    go (c == 58) refl both.0 (colons_none test never text both.1)
  where
    go : (b : Bool) → (c == 58) ≡ b → test c ≡ true → count text ≡ 0 → cond b (1 + count text) (count text) ≡ 0
    go false is passes rest = rest
    go true is passes rest =
        let colon : c ≡ 58 = eqb-true c 58 is in
        let wrong : true ≡ false = sym passes ∙ ap test colon ∙ never in
        cc

plain : (test : ℕ → Bool) → test 58 ≡ false → (text : List ℕ) → list_all test text ≡ true → HasNoColon text
plain test never text all = sym (is_count_by count (λ c. c == 58) refl (λ c rest. refl) text) ∙ colons_none test never text all

-- the ARN has these parts
pub parts_is_arn : (arn word : List ℕ) (r : RequesterValue) → HasParts arn word r → IsArn (parts_of word r) arn
parts_is_arn arn word r p = (
  refl,
  (
    refl,
    (
      plain is_label_character refl r.partition (and_parts _ _ p.partition).1,
      (refl, (refl, (plain is_ascii_digit refl r.account (and_parts _ _ p.account).1, tt))),
    ),
  ),
  sym p.arn_is,
)

-- the parts of an ARN that pass the test
pub parts_from_cut : (arn word prefix partition service region account resource path : List ℕ)
    → IsArn (prefix ∷ (partition ∷ (service ∷ (region ∷ (account ∷ (resource ∷ [])))))) arn
    → is_of_account prefix partition service region account ≡ true → resource ≡ word ++ path → path_from false path ≡ true
    → HasParts arn word (record { partition = partition; account = account; path = path; session = None })
parts_from_cut text word prefix partition service region account resource path arn fits behind walked =
    let last = and_parts _ (is_account account) fits in
    let before_account = and_parts _ (is_label partition) last.0 in
    let before_partition = and_parts _ (length region == 0) before_account.0 in
    let words = and_parts (bytes_eq prefix (codes "arn")) (bytes_eq service (codes "iam")) before_partition.0 in
    let arn_is : prefix ≡ codes "arn" = same_text prefix (codes "arn") words.0 in
    let iam_is : service ≡ codes "iam" = same_text service (codes "iam") words.1 in
    let no_region : region ≡ [] = nil_from_length region (eqb-true (length region) 0 before_partition.1) in
    record {
      partition = before_account.1;
      account = last.1;
      path = (path_test path).0 walked;
      arn_is =
          sym arn.2
          ∙ ap (λ p. p ++ (58 ∷ (partition ++ (58 ∷ (service ++ (58 ∷ (region ++ (58 ∷ (account ++ (58 ∷ resource)))))))))) arn_is
          ∙ ap (λ s. codes "arn" ++ (58 ∷ (partition ++ (58 ∷ (s ++ (58 ∷ (region ++ (58 ∷ (account ++ (58 ∷ resource)))))))))) iam_is
          ∙ ap (λ z. codes "arn" ++ (58 ∷ (partition ++ (58 ∷ (codes "iam" ++ (58 ∷ (z ++ (58 ∷ (account ++ (58 ∷ resource)))))))))) no_region
          ∙ ap (λ z. codes "arn" ++ (58 ∷ (partition ++ (58 ∷ (codes "iam" ++ (58 ∷ ([] ++ (58 ∷ (account ++ (58 ∷ z)))))))))) behind;
    }

-- the parts pass the test
pub parts_pass : (r : RequesterValue) (arn word prefix partition service region account resource : List ℕ) → HasParts arn word r
    → prefix ∷ (partition ∷ (service ∷ (region ∷ (account ∷ (resource ∷ []))))) ≡ parts_of word r
    → (is_of_account prefix partition service region account ≡ true) × (resource ≡ word ++ r.path)
parts_pass r arn word prefix partition service region account resource p same =
    let prefix_is : prefix ≡ codes "arn" = cc in
    let partition_is : partition ≡ r.partition = cc in
    let service_is : service ≡ codes "iam" = cc in
    let region_is : region ≡ [] = cc in
    let account_is : account ≡ r.account = cc in
    let resource_is : resource ≡ word ++ r.path = cc in
    let words : (bytes_eq prefix (codes "arn") && bytes_eq service (codes "iam")) ≡ true = ap (λ p. bytes_eq p (codes "arn") && bytes_eq service (codes "iam")) prefix_is ∙ ap (λ s. bytes_eq s (codes "iam")) service_is in
    let named : (bytes_eq prefix (codes "arn") && bytes_eq service (codes "iam") && (length region == 0)) ≡ true =
    ap (λ b. b && (length region == 0)) words ∙ ap (λ z. length z == 0) region_is in
    let of_partition : (bytes_eq prefix (codes "arn") && bytes_eq service (codes "iam") && (length region == 0) && is_label partition) ≡ true =
    ap (λ b. b && is_label partition) named ∙ ap is_label partition_is ∙ p.partition in
    (ap (λ b. b && is_account account) of_partition ∙ ap is_account account_is ∙ p.account, resource_is)

-- the requester of these parts is the only one, but for its session
pub same_parts : (r : RequesterValue) (word prefix partition service region account resource path : List ℕ)
    → prefix ∷ (partition ∷ (service ∷ (region ∷ (account ∷ (resource ∷ []))))) ≡ parts_of word r → resource ≡ word ++ path
    → r ≡ record { partition = partition; account = account; path = path; session = r.session }
same_parts r word prefix partition service region account resource path same behind =
    let partition_is : r.partition ≡ partition = cc in
    let account_is : r.account ≡ account = cc in
    let resource_is : resource ≡ word ++ r.path = cc in
    let path_is : r.path ≡ path = append_cancel_left word r.path path (sym resource_is ∙ behind) in
    λ i. record { partition = partition_is i; account = account_is i; path = path_is i; session = r.session }
