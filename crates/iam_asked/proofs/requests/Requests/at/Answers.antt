use Rattle.std.proofs.Common.{◌≡◌, ◌<◌, ap, length, map, refl, subst, arith}
use Rattle.iam_asked.specs.Code.Reading.{asked_of}
use Rattle.iam_asked.specs.Request.{IsAsked, IsWithin, RequestsValue, asked_with}
use Rattle.iam_asked.proofs.Kept.{asked_at, within_at}
use Rattle.iam_asked.proofs.requests.Requests.at.Goals as goal

-- what is known of the entry
within : (c : goal.After-struct_known-3-1) → IsWithin c.args.self.now.world (asked_of (c.self.inside.contexts.keys) c.index-entry.result.now)
within c =
    let own = c.self.inside in
    let contexts = own.contexts.keys in
    let entry = c.index-entry.result.now in
    let same = ap (λ (v : RequestsValue). length v.asked) c.self.view_is in
    let inside : c.args.n < length (map (asked_of contexts) own.entries.items) = omega (arith, c.requires, same) in
    subst (λ (v : RequestsValue). IsWithin v.world (asked_of contexts entry)) c.self.view_is
    (within_at own.world.now contexts own.entries.items c.args.n entry c.self.invariant.within inside c.index-entry.ensures)

pub returns-clause-is : goal.returns-clause-is
returns-clause-is c =
    let own = c.self.inside in
    let contexts = own.contexts.keys in
    let entry = c.index-entry.result.now in
    let same = ap (λ (v : RequestsValue). length v.asked) c.self.view_is in
    let inside : c.args.n < length (map (asked_of contexts) own.entries.items) = omega (arith, c.requires, same) in
    subst
    (λ (v : RequestsValue).
    IsAsked v c.args.n (λ asked. asked ≡ asked_with (record { principal = entry.principal; action = entry.action; resource = entry.resource }) asked.own))
    c.self.view_is (asked_of contexts entry, asked_at contexts own.entries.items c.args.n entry inside c.index-entry.ensures, refl)

pub returns-clause-principal : goal.returns-clause-principal
returns-clause-principal c = (within c).principal

pub returns-clause-action : goal.returns-clause-action
returns-clause-action c = (within c).action

pub returns-clause-resource : goal.returns-clause-resource
returns-clause-resource c = (within c).resource
