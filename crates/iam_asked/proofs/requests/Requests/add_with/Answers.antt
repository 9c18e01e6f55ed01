use Rattle.std.proofs.Common.{◌≡◌, ◌∙◌, ◌+◌, ◌-◌, ◌<◌, ◌≤◌, ◌++◌, ◌∷◌, [], Bool, ap, arith, if◌then◌else◌, length, refl, subst, suc, sym}
use Rattle.std.specs.List.{sum_by}
use Rattle.std.proofs.lemmas.List.{length-map}
use Rattle.std.proofs.lemmas.List.Sums.{sum_by_push}
use Rattle.iam_asked.specs.Code.Reading.{AreKept, asked_of, own_of, requests_of}
use Rattle.iam_asked.specs.Request.{IsWithin, RequestsValue, asked_with, with_asked}
use Rattle.iam_asked.specs.Size.{AreKeysOf, own_size}
use Rattle.iam_asked.specs.declared.entry.Entry.{Entry}
use Rattle.iam_asked.proofs.Kept.{asked_known, few_contexts, found_at, keep_more, keep_new, not_among, own_at, own_last, requests_more, requests_new, some_keys}
use Rattle.iam_asked.proofs.KeysLemmas.{keys_new}
use Rattle.iam_asked.proofs.requests.Requests.add_with.Goals as goal

-- ---- keys that are known

few : (c : goal.In-Some) → c.in-Some.number < 67108864
few c =
    let own = c.self.inside in
    let most = few_contexts own.world.now own.entries.items own.contexts.keys own.size c.self.invariant in
    omega (arith, most, c.in-Some.ensures.within)

pub overflow_cast-number : goal.overflow_cast-number
overflow_cast-number c = omega (arith, few c)

pub overflow_add-number : goal.overflow_add-number
overflow_add-number c = omega (arith, few c)

-- the request of the entry
known_is : (c : goal.After-drop-own-inside-in-Some) → asked_of c.self.inside.contexts.keys c.entry_of-entry.result ≡ asked_with c.args.asked c.args.own
known_is c =
    let keys = c.self.inside.contexts.keys in
    let at = found_at keys c.args.own c.in-Some.number (sym c.in-Some.ensures.index) in
    asked_known keys c.args.asked c.args.own (c.in-Some.number + 1) c.entry_of-entry.result c.entry_of-entry.ensures (own_at keys c.in-Some.number c.args.own at)

pub invariant_of-self-in-Some : goal.invariant_of-self-in-Some
invariant_of-self-in-Some c =
    let own = c.self.inside in
    let world = own.world.now in
    let keys = own.contexts.keys in
    let entry = c.entry_of-entry.result in
    let within : IsWithin world (asked_of keys entry) =
    subst (IsWithin world) (sym (known_is c))
    (subst (λ (v : RequestsValue). IsWithin v.world (asked_with c.args.asked c.args.own)) (sym c.self.view_is) c.requires.within) in
    let same = ap (λ (v : RequestsValue). length v.asked) c.self.view_is in
    let room : length own.entries.items < 16777216 = omega (arith, c.requires.few, same, length-map own.entries.items (asked_of keys)) in
    let place : entry.context ≡ c.in-Some.number + 1 = ap (λ (it : Entry). it.context) c.entry_of-entry.ensures in
    let there : entry.context ≤ length keys = omega (arith, place, c.in-Some.ensures.within) in
    subst (λ entries. AreKept world entries keys own.size) (sym c.in_ok-push.ensures.items)
    (keep_more world own.entries.items keys own.size entry c.self.invariant within there room)

pub returns-in-Some-clause-ok : goal.returns-in-Some-clause-ok
returns-in-Some-clause-ok c =
    let own = c.self.inside in
    let world = own.world.now in
    let keys = own.contexts.keys in
    ap (λ entries. requests_of world entries keys) c.in_ok-push.ensures.items
    ∙ requests_more world own.entries.items keys c.entry_of-entry.result
    ∙ ap (with_asked (requests_of world own.entries.items keys)) (known_is c)
    ∙ ap (λ (v : RequestsValue). with_asked v (asked_with c.args.asked c.args.own)) c.self.view_is

-- ---- keys that are new

pub returns-in_default-behind_own-clause-fault : goal.returns-in_default-behind_own-clause-fault
returns-in_default-behind_own-clause-fault c = λ other.
    let own = c.self.inside in
    let keys = own.contexts.keys in
    let one = asked_with c.args.asked c.args.own in
    let before : AreKeysOf c.args.self.now.asked keys = subst (λ (v : RequestsValue). AreKeysOf v.asked keys) c.self.view_is c.self.invariant.keys in
    let size = sum_by own_size (keys ++ c.args.own ∷ []) in
    let large : 67108864 < size =
    omega (arith, c.self.invariant.size_is, c.self.invariant.most, c.in_default-behind_own.ensures, sum_by_push own_size keys c.args.own) in
    (refl, (size, (keys ++ c.args.own ∷ [], keys_new c.args.self.now.asked keys one before (some_keys c.args.own c.requires.some) (not_among keys c.args.own (sym c.in_default.ensures.found)), refl), large))

room : (c : goal.After-len) → c.len.result ≤ 67108864
room c =
    let own = c.self.inside in
    let most = few_contexts own.world.now own.entries.items own.contexts.keys own.size c.self.invariant in
    omega (arith, most, c.len.ensures.len)

pub overflow_cast-len : goal.overflow_cast-len
overflow_cast-len c = omega (arith, room c)

pub overflow_add-len : goal.overflow_add-len
overflow_add-len c = omega (arith, room c)

-- the keys join the others
keys_are : (c : goal.After-self-1) → c.insert.new.self.keys ≡ c.self.inside.contexts.keys ++ c.args.own ∷ []
keys_are c =
    let keys = c.self.inside.contexts.keys in
    c.in_ok-insert.ensures.keys ∙ ap (λ (b : Bool). if b then keys else keys ++ c.args.own ∷ []) (sym c.in_default.ensures.found)

entries_are : (c : goal.After-self-1) → c.push_reserved.new.self.items ≡ c.self.inside.entries.items ++ c.entry_of-entry-2.result ∷ []
entries_are c = c.push_reserved.ensures.items ∙ ap (λ entries. entries ++ c.entry_of-entry-2.result ∷ []) c.in_ok-reserve.ensures.items

pub invariant_of-self-2 : goal.invariant_of-self-2
invariant_of-self-2 c =
    let own = c.self.inside in
    let world = own.world.now in
    let keys = own.contexts.keys in
    let more = keys ++ c.args.own ∷ [] in
    let entry = c.entry_of-entry-2.result in
    let place : c.len.result + 1 ≡ length keys + 1 = omega (arith, c.len.ensures.len) in
    let number : entry.context ≡ length keys + 1 = ap (λ (it : Entry). it.context) c.entry_of-entry-2.ensures ∙ place in
    let here : own_of more (c.len.result + 1) ≡ c.args.own =
    let next : c.len.result + 1 ≡ suc (length keys) = omega (arith, place) in
    ap (own_of more) next ∙ own_last keys c.args.own in
    let is = asked_known more c.args.asked c.args.own (c.len.result + 1) entry c.entry_of-entry-2.ensures here in
    let within : IsWithin world (asked_of more entry) =
    subst (IsWithin world) (sym is)
    (subst (λ (v : RequestsValue). IsWithin v.world (asked_with c.args.asked c.args.own)) (sym c.self.view_is) c.requires.within) in
    let same = ap (λ (v : RequestsValue). length v.asked) c.self.view_is in
    let room : length own.entries.items < 16777216 = omega (arith, c.requires.few, same, length-map own.entries.items (asked_of keys)) in
    let size : own.size + own_size c.args.own ≡ 67108864 - c.in-Some-behind_own.left = omega (arith, c.in-Some-behind_own.ensures, c.self.invariant.most) in
    let kept =
    keep_new world own.entries.items keys own.size c.args.own entry c.self.invariant (some_keys c.args.own c.requires.some) (not_among keys c.args.own (sym c.in_default.ensures.found)) within number room (omega (arith, size)) in
    subst (λ entries. AreKept world entries c.insert.new.self.keys (67108864 - c.in-Some-behind_own.left)) (sym (entries_are c))
    (
    subst (λ them. AreKept world (own.entries.items ++ entry ∷ []) them (67108864 - c.in-Some-behind_own.left)) (sym (keys_are c))
    (subst (AreKept world (own.entries.items ++ entry ∷ []) more) size kept)
    )

pub returns-clause-ok : goal.returns-clause-ok
returns-clause-ok c =
    let own = c.self.inside in
    let world = own.world.now in
    let keys = own.contexts.keys in
    let entry = c.entry_of-entry-2.result in
    let place : c.len.result + 1 ≡ length keys + 1 = omega (arith, c.len.ensures.len) in
    ap (λ entries. requests_of world entries c.insert.new.self.keys) (entries_are c)
    ∙ ap (requests_of world (own.entries.items ++ entry ∷ [])) (keys_are c)
    ∙ requests_new world own.entries.items keys c.args.asked c.args.own (c.len.result + 1) entry c.self.invariant.contexts_are c.entry_of-entry-2.ensures place
    ∙ ap (λ (v : RequestsValue). with_asked v (asked_with c.args.asked c.args.own)) c.self.view_is
