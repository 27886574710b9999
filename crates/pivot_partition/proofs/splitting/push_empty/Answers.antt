use Rattle.std.proofs.Common.{◌≡◌, ◌∙◌, ap, length, [], ◌+◌, arith, ℕ}
use Rattle.std.specs.Global.{Vec}
use Rattle.std.proofs.lemmas.List.{length_push}
use Rattle.std.proofs.lemmas.List.Elements.{All-nil, All-push}
use Rattle.pivot_partition.proofs.splitting.push_empty.Goals as goal

pub loop-place-init : goal.loop-place-init
loop-place-init c = record {
  long = ap length c.requires;
  empty = rw c.requires (All-nil (λ (list : Vec ℕ). list.items ≡ []));
}

pub loop-place-preserved : goal.loop-place-preserved
loop-place-preserved c = record {
  long = ap length c.in_ok-push.ensures.items ∙ length_push c.loop-place.lists.items c.new.result ∙ ap (λ n. n + 1) c.loop-place.invariant.long;
  empty = rw c.in_ok-push.ensures.items (All-push (λ (list : Vec ℕ). list.items ≡ []) c.loop-place.lists.items c.new.result c.loop-place.invariant.empty c.new.ensures.items);
}

pub returns-clause-long : goal.returns-clause-long
returns-clause-long c = let done : c.loop-place._place ≡ c.args.count = omega arith in c.loop-place.invariant.long ∙ done
