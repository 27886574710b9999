use Rattle.std.proofs.Common.{◌≡◌, ◌+◌, ◌≤◌, [], ◌∷◌, ◌++◌, length, take, drop, map, sym, ap, ◌∙◌, subst, refl, arith, length-drop, Contains}
use Rattle.std.proofs.lemmas.List.{append-nil, take_rest}
use Rattle.std.proofs.lemmas.List.{drop_all}
use Rattle.std.specs.List.{AllByRecursion}
use Rattle.mine_model.specs.Names.{name_of, HasName}
use Rattle.mine_model.proofs.ListLemmas.{of_both}
use Rattle.pattern_proof.specs.Pieces.{IsWithout, BeginsWith}
use Rattle.pattern_proof.specs.ProofLines.{spaced}
use Rattle.pattern_proof.proofs.PieceLemmas.{piece-read, names-more, names-held, begins-next, name-found, names-said}
use Rattle.pattern_proof.proofs.lines.names_in.Goals as goal

pub returns-in_default : goal.returns-in_default
returns-in_default c = λ sound others says.
    let text = c.args.text.now in let from = c.loop-from.from in let d = c.place_of.result in
    let held = names-held c.args.names.now text c.loop-from.items.items from d (from + d) c.loop-from-test.true c.loop-from.invariant.begins refl c.loop-from.invariant.said
    sound c.loop-from.invariant.named (subst (λ l. IsWithout 32 (take d l)) (take_rest text from) c.place_of.ensures.before)
    (subst (λ l. BeginsWith 32 (drop d l)) (take_rest text from) c.place_of.ensures.behind) others says in
    c.in_default.ensures.none.0 refl (subst (Contains c.args.names.now) (sym (piece-read text from d)) held)

pub loop-from-preserved : goal.loop-from-preserved
loop-from-preserved c =
    let text = c.args.text.now in let from = c.loop-from.from in let d = c.place_of.result in
    let few = subst (λ l. d ≤ length l) (take_rest text from) c.place_of.ensures.within in
    let long = length-drop from text in
    let found = name-found c.args.names.now c.in-Some.item _ c.in-Some.ensures.number in
    let named : name_of c.args.names.now c.in-Some.item ≡ take d (drop from text) = found.0 ∙ piece-read text from d in
    record {
      within = omega (arith, few, long, c.loop-from-test.true);
      begins = begins-next c.args.names.now text c.loop-from.items.items from d (from + d) c.loop-from-test.true c.loop-from.invariant.begins refl c.loop-from.invariant.said
          (subst (λ l. BeginsWith 32 (drop d l)) (take_rest text from) c.place_of.ensures.behind);
      named = subst (AllByRecursion (HasName c.args.names.now)) (sym c.in_ok-push.ensures.items)
          (of_both (HasName c.args.names.now) c.loop-from.items.items (c.in-Some.item ∷ []) c.loop-from.invariant.named (found.1, tt));
      said = subst (λ l. 32 ∷ text ≡ spaced (map (name_of c.args.names.now) l) ++ drop (from + d + 1) (32 ∷ text)) (sym c.in_ok-push.ensures.items)
          (names-more c.args.names.now text c.loop-from.items.items from d (from + d) c.loop-from-test.true c.loop-from.invariant.begins refl c.loop-from.invariant.said c.in-Some.item named);
    }

pub returns : goal.returns
returns c =
    let over = c.loop-from-test.false in
    let nothing : drop c.loop-from.from (32 ∷ c.args.text.now) ≡ [] = drop_all c.loop-from.from (32 ∷ c.args.text.now) (omega (arith, over)) in
    names-said c.args.names.now c.args.text.now c.loop-from.items.items
    (c.loop-from.invariant.said ∙ ap (λ l. spaced (map (name_of c.args.names.now) c.loop-from.items.items) ++ l) nothing ∙ append-nil _) c.loop-from.invariant.named
