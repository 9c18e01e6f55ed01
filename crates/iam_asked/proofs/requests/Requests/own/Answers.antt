use Rattle.std.proofs.Common.{◌≡◌, ◌≢◌, ◌∙◌, ◌+◌, ◌-◌, ◌<◌, [], ap, arith, length, map, subst, sym, Some}
use Rattle.std.specs.List.{slice_get}
use Rattle.iam_context.specs.Context.{ContextValue}
use Rattle.iam_layers.specs.Own.{IsCleanAt}
use Rattle.iam_asked.specs.Code.Reading.{asked_of, own_of}
use Rattle.iam_asked.specs.Request.{IsAsked, RequestsValue}
use Rattle.iam_asked.proofs.Kept.{asked_at, own_at, within_at}
use Rattle.iam_asked.proofs.requests.Requests.own.Goals as goal

pub returns-then-entry-eq0 : goal.returns-then-entry-eq0
returns-then-entry-eq0 c =
    let own = c.self.inside in
    let contexts = own.contexts.keys in
    let entry = c.index-entry.result.now in
    let same = ap (λ (v : RequestsValue). length v.asked) c.self.view_is in
    let inside : c.args.n < length (map (asked_of contexts) own.entries.items) = omega (arith, c.requires, same) in
    subst (λ (v : RequestsValue). IsAsked v c.args.n (λ asked. asked.own ≡ [])) c.self.view_is
    (asked_of contexts entry, asked_at contexts own.entries.items c.args.n entry inside c.index-entry.ensures, ap (own_of contexts) c.if-entry-eq0.true)

pub returns : goal.returns
returns c =
    let own = c.self.inside in
    let contexts = own.contexts.keys in
    let entry = c.index-entry.result.now in
    let same = ap (λ (v : RequestsValue). length v.asked) c.self.view_is in
    let inside : c.args.n < length (map (asked_of contexts) own.entries.items) = omega (arith, c.requires, same) in
    let within = within_at own.world.now contexts own.entries.items c.args.n entry c.self.invariant.within inside c.index-entry.ensures in
    let place = entry.context - 1 in
    let keys : ContextValue = c.in_ok-own.own.now in
    let at : slice_get contexts place ≡ Some keys = sym c.in_ok-own.ensures.key in
    let next : entry.context ≡ place + 1 = omega (arith, c.if-entry-eq0.false) in
    let own_is : own_of contexts entry.context ≡ keys = ap (own_of contexts) next ∙ own_at contexts place keys at in
    let some : keys ≢ [] = (c.self.invariant.keys.given place keys at).0 in
    subst (λ (v : RequestsValue). IsAsked v c.args.n (λ asked. (c.part.result.now.items ≡ asked.own) × IsCleanAt v.world asked.principal asked.resource asked.own)) c.self.view_is (
      asked_of contexts entry,
      asked_at contexts own.entries.items c.args.n entry inside c.index-entry.ensures,
      (c.part.ensures ∙ sym own_is, within.clean (λ none. some (sym own_is ∙ none))),
    )
