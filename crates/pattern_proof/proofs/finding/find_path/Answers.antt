use Rattle.std.proofs.Common.{◌≡◌, ℕ, ◌+◌, ◌-◌, ◌*◌, ◌/◌, ◌≤◌, ◌<◌, List, length, sym, ap, ◌∙◌, subst, arith, vec_capacity}
use Rattle.mine_model.specs.declared.item.Item.{Item}
use Rattle.mine_model.specs.Ancestry.{Ancestry}
use Rattle.mine_model.specs.Database.{sequence_at}
use Rattle.mine_model.specs.Support.{Sequence}
use Rattle.fst_compile.specs.Transducer.{Transducer}
use Rattle.mining_job.specs.Problems.{Problem, items_of}
use Rattle.pattern_proof.specs.Reading.{numbers_of}
use Rattle.pattern_proof.proofs.FindingLemmas.{run-shorter}
use Rattle.pattern_proof.proofs.RoomLemmas.{words-within}
use Rattle.pattern_proof.proofs.RunLemmas.{passes-run, match-writes}
use Rattle.pattern_proof.proofs.finding.find_path.Goals as goal

pub returns-in_default-clause-path : goal.returns-in_default-clause-path
returns-in_default-clause-path c = λ states passes.
    let problem : Problem = c.args.job.now in
    let few = run-shorter problem.hierarchy.links problem.transducer 0 states (items_of problem c.args.seq) c.args.pattern.now
    (passes-run problem c.db.ensures.whole 0 states (items_of problem c.args.seq) c.args.pattern.now passes) in
    let items = c.sequence-items.ensures.items ∙ ap (λ (s : List (Sequence Item)). (sequence_at s c.args.seq).items) c.db.ensures.sequences in
    let long = ap length items in
    let none = c.in_default.ensures in
    omega (arith, few, long, none)

pub clear_bits-requires : goal.clear_bits-requires
clear_bits-requires c =
    let problem : Problem = c.args.job.now in
    let items = c.sequence-items.ensures.items ∙ ap (λ (s : List (Sequence Item)). (sequence_at s c.args.seq).items) c.db.ensures.sequences in
    let long : length c.sequence-items.result.now ≡ length (items_of problem c.args.seq) = ap length items in
    let cut = c.in-Some.ensures in
    let states : c.states.result ≡ length problem.transducer.labels + 1 = c.states.ensures.states ∙ ap (λ (m : Transducer). length m.labels + 1) c.fst-2.ensures.transducer in
    let table = c.requires.room.table (omega (arith, cut, long)) in
    words-within (length (items_of problem c.args.seq)) (length c.args.pattern.now) c.in-Some.silents c.states.result (vec_capacity c.args.room.now.table) (omega (arith, cut, long))
    (subst (λ w. (length (items_of problem c.args.seq) + 1) * (length c.args.pattern.now + 1) * w < 64 * vec_capacity c.args.room.now.table) (sym states) table)

pub find_in-requires-clause-room : goal.find_in-requires-clause-room
find_in-requires-clause-room c =
    let cut = c.in-Some.ensures in
    let silents : c.in-Some.silents ≡ length c.sequence-items.result.now - length c.args.pattern.now = omega (arith, cut) in
    let states : c.states.result ≡ length c.fst.result.now.labels + 1 =
    c.states.ensures.states ∙ ap (λ (m : Transducer). length m.labels + 1) (c.fst-2.ensures.transducer ∙ sym c.fst.ensures.transducer) in
    let bits : ℕ = (length c.args.pattern.now + 1) * (c.in-Some.silents + 1) * c.states.result in
    let long : length c.clear_bits.new.words.items ≡ bits / 64 + 1 = c.clear_bits.ensures.long in
    let own : bits ≤ 64 * length c.clear_bits.new.words.items = omega (arith, long) in
    subst (λ n. (length c.args.pattern.now + 1) * (n + 1) * (length c.fst.result.now.labels + 1) ≤ 64 * length c.clear_bits.new.words.items) silents
    (subst (λ n. (length c.args.pattern.now + 1) * (c.in-Some.silents + 1) * n ≤ 64 * length c.clear_bits.new.words.items) states own)

pub returns-clause-path : goal.returns-clause-path
returns-clause-path c =
    let problem : Problem = c.args.job.now in
    match-writes problem c.db.ensures.whole c.args.seq (numbers_of c.find_in.new.states.items) c.args.pattern.now c.sequence-items.result.now c.hierarchy.result.now.links c.fst.result.now
    (ap (λ (h : Ancestry). h.links) c.hierarchy.ensures.hierarchy) c.fst.ensures.transducer
    (c.sequence-items.ensures.items ∙ ap (λ (s : List (Sequence Item)). (sequence_at s c.args.seq).items) c.db.ensures.sequences) c.find_in.result c.find_in.ensures.path

pub returns-clause-kept : goal.returns-clause-kept
returns-clause-kept c = λ states n m had.
    let deep = c.find_in.ensures.deep in
    let room = c.find_in.ensures.room in
    let clear = c.clear_bits.ensures.room in
    let before = had.deep in
    record { table = λ few. let table = had.table few in omega (arith, table, room, clear); deep = omega (arith, deep, before) }
