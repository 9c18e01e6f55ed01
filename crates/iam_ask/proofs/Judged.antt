-- What is said of a request by the calls of those that decide it.
use Rattle.std.proofs.Common.{◌≡◌, ◌<◌, ℕ, [], length, sym, ◌∙◌, subst}
use Rattle.std.proofs.lemmas.Option.{same_Some}
use Rattle.iam_context.specs.Context.{ContextValue}
use Rattle.iam_layers.specs.Own.{IsCleanAt}
use Rattle.iam_world.specs.World.{WorldValue}
use Rattle.iam_asked.specs.Request.{AskedValue, IsAsked, RequestsValue, asked_with}
use Rattle.iam_asked.specs.declared.asked.Asked.{Asked}
use Rattle.iam_ask.specs.Code.Rows.{IsOn}

-- at one place stands one request
pub both : (requests : RequestsValue) (n : ℕ) (P Q : AskedValue → Type 0) → IsAsked requests n P → IsAsked requests n Q → IsAsked requests n (λ asked. P asked × Q asked)
both requests n P Q (asked, at, p) (other, at', q) =
    let same : other ≡ asked = same_Some _ _ (sym at' ∙ at) in (asked, at, (p, subst Q same q))

-- a request with these numbers
abbrev pub HasNumbers : Asked → AskedValue → Type 0
HasNumbers at asked = asked ≡ asked_with at asked.own

-- it gives these keys, which are clean
abbrev pub GivesOwn : WorldValue → ContextValue → AskedValue → Type 0
GivesOwn world own asked = (own ≡ asked.own) × IsCleanAt world asked.principal asked.resource asked.own

-- what is said of the request with these numbers and keys is said of request n
pub said_on : {X : Type 0} (Is : WorldValue → AskedValue → X → Type 0) (requests : RequestsValue) (n : ℕ) (at : Asked) (world : WorldValue) (entry : X)
    → requests.world ≡ world → at.principal < length requests.world.principals → at.action < length requests.world.actions → at.resource < length requests.world.resources
    → IsAsked requests n (HasNumbers at) → IsAsked requests n (λ asked. Is world (asked_with at asked.own) entry) → IsOn Is requests n entry
said_on Is requests n at world entry same principal action resource numbers told =
    let (asked, at_n, (is, here)) = both requests n (HasNumbers at) (λ a. Is world (asked_with at a.own) entry) numbers told in
    let P : AskedValue → Type 0 = λ a. Is world a entry in (
      asked,
      at_n,
      (
        record {
          principal = subst (λ (a : AskedValue). a.principal < length requests.world.principals) (sym is) principal;
          action = subst (λ (a : AskedValue). a.action < length requests.world.actions) (sym is) action;
          resource = subst (λ (a : AskedValue). a.resource < length requests.world.resources) (sym is) resource;
        },
        subst (λ w. Is w asked entry) (sym same) (subst P (sym is) here),
      ),
    )

-- of a request that gives keys, and of one that gives none
pub with_own : {X : Type 0} (Is : WorldValue → AskedValue → X → Type 0) (requests : RequestsValue) (n : ℕ) (at : Asked) (own : ContextValue) (world : WorldValue) (entry : X)
    → IsAsked requests n (GivesOwn requests.world own) → Is world (asked_with at own) entry → IsAsked requests n (λ asked. Is world (asked_with at asked.own) entry)
with_own Is requests n at own world entry (asked, at_n, (e, clean)) is = (asked, at_n, subst (λ o. Is world (asked_with at o) entry) e is)

pub without_own : {X : Type 0} (Is : WorldValue → AskedValue → X → Type 0) (requests : RequestsValue) (n : ℕ) (at : Asked) (world : WorldValue) (entry : X)
    → IsAsked requests n (λ asked. asked.own ≡ []) → Is world (asked_with at []) entry → IsAsked requests n (λ asked. Is world (asked_with at asked.own) entry)
without_own Is requests n at world entry (asked, at_n, e) is = (asked, at_n, subst (λ o. Is world (asked_with at o) entry) (sym e) is)
