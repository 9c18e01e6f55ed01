use Rattle.std.proofs.Common.{inl, inr, ◌∙◌, Some, subst, sym}
use Rattle.std.proofs.lemmas.List.{length-set}
use Rattle.iam_kinds.specs.Kept.{IsFound, names_of}
use Rattle.iam_kinds.specs.declared.walks.Found.{Found}
use Rattle.iam_kinds.proofs.KeptLemmas.{kept_one}
use Rattle.iam_kinds.proofs.walks.Walks.keep.Goals as goal

pub returns-clause-found : goal.returns-clause-found
returns-clause-found c =
    let slots = c.args.self.now.slots.items in record {
      slots = length-set slots c.args.slot (Some c.args.found) ∙ c.requires.found.slots;
      found = λ i found at. elim (kept_one slots c.args.slot c.args.found i found at) [
        | inl same ↦ subst (λ (x : Found). IsFound (names_of c.args.self.now) x) (sym same) c.requires.right
        | inr there ↦ c.requires.found.found i found there
      ];
    }
