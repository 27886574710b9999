use Rattle.std.proofs.Common.{◌∙◌, ◌+◌, ◌%◌, ◌==◌, ◌++◌, true, List, get_or, drop, refl, sym, ap, arith}
use Rattle.std.proofs.lemmas.List.{append-nil}
use Rattle.place_walk.specs.declared.stand.Stand.{Stand}
use Rattle.candidate_graph.specs.Words.{stands_from}
use Rattle.candidate_graph.proofs.WordLemmas.{read-start, read-more, read-end}
use Rattle.candidate_graph.proofs.words.read_stands.Goals as goal

pub words-init : goal.words-init
words-init c = record {
  begun = omega arith;
  left = ap (λ (l : List Stand). l ++ stands_from true (drop 1 c.args.words.now)) c.clear.ensures.items ∙ read-start c.args.words.now;
}

pub words-preserved : goal.words-preserved
words-preserved c =
    let words = c.args.words.now in
    let at = c.words.at in
    record {
      begun = omega arith;
      left = ap (λ (l : List Stand). l ++ stands_from ((at + 2) == 1) (drop (at + 2) words)) c.in_ok-push.ensures.items
          ∙ read-more words at c.words.invariant.begun c.words.stands.items (get_or words at 0) (get_or words (at + 1) 0 % 65536) (at == 1) c.if-at-words.true refl refl refl
          ∙ c.words.invariant.left;
    }

pub returns-else-at-words : goal.returns-else-at-words
returns-else-at-words c =
    let left = read-end c.args.words.now c.words.at c.words.invariant.begun c.words.stands.items c.if-at-words.false in
    sym (append-nil c.words.stands.items) ∙ ap (λ (l : List Stand). c.words.stands.items ++ l) (sym left) ∙ c.words.invariant.left
