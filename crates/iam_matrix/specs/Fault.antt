-- The faults of cuts and of matrices, with their numbers. LOGIC 11.7 and 14.
use Rattle.std.specs.Prelude.{ℕ, List, codes}
use Rattle.iam_matrix.specs.declared.cut.CutFault.{CutFault}
use Rattle.iam_matrix.specs.declared.cut.CutFault.TheVariants as c
use Rattle.iam_matrix.specs.declared.fault.MatrixFault.{MatrixFault}
use Rattle.iam_matrix.specs.declared.fault.MatrixFault.TheVariants as m

abbrev pub cut_text : CutFault → List ℕ
cut_text c.ZeroTile = codes "1 ZeroTile"
cut_text c.WrongSum = codes "2 WrongSum"
cut_text c.TooMany = codes "3 TooMany"
cut_text c.OutOfMemory = codes "4 OutOfMemory"

abbrev pub matrix_text : MatrixFault → List ℕ
matrix_text m.Workers = codes "1 Workers"
matrix_text m.OutOfMemory = codes "2 OutOfMemory"
