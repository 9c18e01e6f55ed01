use Rattle.iam_glob.proofs.CompiledLemmas.{begun, not_begun}
use Rattle.iam_glob.proofs.compiled.begins_with.Goals as goal

pub returns-then-not-is_off-clause-begins : goal.returns-then-not-is_off-clause-begins
returns-then-not-is_off-clause-begins c = λ so. begun c.args.front.now c.args.text.now c.starts_with.result c.starts_with.ensures.value so

pub returns-then-not-is_off-clause-off : goal.returns-then-not-is_off-clause-off
returns-then-not-is_off-clause-off c = λ off rest e. not_begun c.args.front.now c.args.text.now rest c.starts_with.result c.starts_with.ensures.value off e
