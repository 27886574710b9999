use Rattle.fst_compile.proofs.OutputLemmas.{IsKeptSoFar}
use Rattle.fst_compile.proofs.writing.write_between.Given as goal

abbrev pub invariant-loop-v : goal.invariant-loop-v
invariant-loop-v l = IsKeptSoFar l.hierarchy.links l.w l.v-items l.out.items l.v-index
