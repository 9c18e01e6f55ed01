use Rattle.std.proofs.Common.{◌≡◌, ◌<◌, ◌≤◌, [], ap, arith, length, refl, subst, sym}
use Rattle.std.proofs.lemmas.List.{length-map}
use Rattle.iam_asked.specs.Code.Reading.{AreKept, asked_of}
use Rattle.iam_asked.specs.Request.{IsWithin, RequestsValue, asked_with}
use Rattle.iam_asked.specs.declared.entry.Entry.{Entry}
use Rattle.iam_asked.proofs.Kept.{asked_known, keep_more}
use Rattle.iam_asked.proofs.requests.Requests.add.Goals as goal

pub invariant_of-self-2 : goal.invariant_of-self-2
invariant_of-self-2 c =
    let own = c.self.inside in
    let world = own.world.now in
    let contexts = own.contexts.keys in
    let entry = c.entry_of-entry.result in
    let is = asked_known contexts c.args.asked [] 0 entry c.entry_of-entry.ensures refl in
    let within : IsWithin world (asked_of contexts entry) =
    subst (IsWithin world) (sym is) (subst (λ (v : RequestsValue). IsWithin v.world (asked_with c.args.asked [])) (sym c.self.view_is) c.requires.within) in
    let same = ap (λ (v : RequestsValue). length v.asked) c.self.view_is in
    let few : length own.entries.items < 16777216 = omega (arith, c.requires.few, same, length-map own.entries.items (asked_of contexts)) in
    let none : entry.context ≡ 0 = ap (λ (it : Entry). it.context) c.entry_of-entry.ensures in
    let known : entry.context ≤ length contexts = omega (arith, none) in
    subst (λ entries. AreKept world entries contexts own.size) (sym c.in_ok-push.ensures.items)
    (keep_more world own.entries.items contexts own.size entry c.self.invariant within known few)
