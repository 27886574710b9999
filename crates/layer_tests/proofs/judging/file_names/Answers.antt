use Rattle.std.proofs.Common.{◌≢◌, ℕ, inl, inr, true, List, [], ◌∷◌, sym, subst}
use Rattle.std.specs.List.{AllByRecursion}
use Rattle.mine_model.specs.Text.{is_name_byte}
use Rattle.mine_model.specs.Tokens.{Each}
use Rattle.mine_model.proofs.ListLemmas.{of_both}
use Rattle.item_names.specs.Names.{IsInterned}
use Rattle.layer_tests.proofs.judging.file_names.Goals as goal

interned : (P : List ℕ → Type 0) (old : List (List ℕ)) (name : List ℕ) (new : List (List ℕ)) → IsInterned old name new → AllByRecursion P old → P name → AllByRecursion P new
interned P old name new (inl same) all one = subst (AllByRecursion P) (sym same.1) all
interned P old name new (inr more) all one = subst (AllByRecursion P) (sym more.1) (of_both P old (name ∷ []) all (one, tt))

pub loop-word-preserved : goal.loop-word-preserved
loop-word-preserved c =
    let name = c.is_name.ensures c.if-not-is_name.false in
    record {
      some = interned (λ n. n ≢ []) c.loop-word.names c.as_bytes-bytes.result.now c.intern.new.self c.in-Ok.ensures.names c.loop-word.invariant.some name.0;
      bytes = interned (Each is_name_byte true) c.loop-word.names c.as_bytes-bytes.result.now c.intern.new.self c.in-Ok.ensures.names c.loop-word.invariant.bytes name.1;
    }
