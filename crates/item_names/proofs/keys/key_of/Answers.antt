use Rattle.std.proofs.Common.{FoldHasher, refl, ap, ◌∙◌, arith}
use Rattle.std.specs.Hash.FoldHasher.{write}
use Rattle.item_names.proofs.KeyLemmas.{key_of-short, key_of-middle, key_of-long, AreBytes-from}
use Rattle.item_names.proofs.keys.key_of.Goals as goal

pub returns-then-name-le8 : goal.returns-then-name-le8
returns-then-name-le8 c = key_of-short c.args.name.now _ c.if-name-le8.true c.word_of.ensures refl refl

pub returns-then-name-le-MOST_WHOLE : goal.returns-then-name-le-MOST_WHOLE
returns-then-name-le-MOST_WHOLE c =
    key_of-middle c.args.name.now _ _ (AreBytes-from c.args.name.now c.type_inv.name) (omega (arith, c.if-name-le8.false)) c.if-name-le-MOST_WHOLE.true
    c.eight_bytes-low.ensures c.eight_bytes-last.ensures refl refl

pub returns : goal.returns
returns c =
    key_of-long c.args.name.now _ c.if-name-le-MOST_WHOLE.false
    (c.finish.ensures ∙ ap (λ (h : FoldHasher). h.state) (c.write.ensures ∙ ap (λ h. write h c.args.name.now) c.default-hasher.ensures)) refl refl
