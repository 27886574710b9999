use Rattle.std.proofs.Common.{rules, ◌≡◌, inl, inr, sym, subst, map, Err, arith, List}
use Rattle.mine_model.specs.declared.fault.Fault.TheVariants.{Read, Write}
use Rattle.mine_model.specs.Numbered.{tree_of}
use Rattle.mine_model.specs.Grammar.{Use}
use Rattle.command_line.specs.Commands.{command_said}
use Rattle.patex_parser.specs.Parsing.{use_view}
use Rattle.desq_run.specs.Ends.{MayEndWith, no_memory, refused_source}
use Rattle.desq_run.proofs.EndLemmas.{unknown-refused}
use Rattle.desq_run.proofs.MineLemmas.{no_other}
use Rattle.desq_run.proofs.jobs.read_job.Goals as goal

pub returns-in_err-parsed-clause-ends : goal.returns-in_err-parsed-clause-ends
returns-in_err-parsed-clause-ends g c = λ words is.
    let same : c.from_residual.result ≡ Err c.in_err-parsed.field-0.0 = search rules in
    let refused = c.in_err-parsed.ensures.refused in
    rw same
    (elim refused [
      | inl memory ↦ subst (λ e. MayEndWith words (g.F.Files.holds c.args.files.now) (Err e)) (sym memory) no_memory
      | inr refusal ↦ refused_source (command_said c.args.command.now) c.in_err-parsed.field-0.0 is refusal
    ])

pub returns-in_err-inputs-clause-ends : goal.returns-in_err-inputs-clause-ends
returns-in_err-inputs-clause-ends g c = λ words is.
    let same : c.from_residual-in_err-inputs.result ≡ Err c.in_err-inputs.field-0.0 = search rules in
    let accepted = c.in_ok-parsed.ensures.accepted in
    rw same (c.in_err-inputs.ensures.ends words (is, accepted))

pub returns-in_err-job-clause-ends : goal.returns-in_err-job-clause-ends
returns-in_err-job-clause-ends g c = λ words is.
    let same : c.from_residual-in_err-job.result ≡ Err c.in_err-job.field-0.0 = search rules in
    let is_read = c.in_ok-parsed.ensures.read in
    let accepted = c.in_ok-parsed.ensures.accepted in
    let inputs = c.in_ok-inputs.ensures.inputs in
    let uses : List Use = map use_view c.in_ok-parsed.parsed.uses.items in
    rw same
    (elim c.in_err-job.ensures.refused [
      | inl memory ↦ subst (λ e. MayEndWith words (g.F.Files.holds c.args.files.now) (Err e)) (sym memory) no_memory
      | inr unknown ↦ unknown-refused words (g.F.Files.holds c.args.files.now) (command_said c.args.command.now) (is, accepted)
          inputs.known inputs.before inputs.hierarchy c.in_ok-inputs.inputs.names c.in_ok-inputs.inputs.db inputs.sequences uses (tree_of c.in_ok-parsed.parsed.tree) is_read
          c.in_err-job.field-0.0 unknown
    ])

pub returns-in_err-job-clause-read_fault : goal.returns-in_err-job-clause-read_fault
returns-in_err-job-clause-read_fault g c = λ file is.
    let same : c.from_residual-in_err-job.result ≡ Err c.in_err-job.field-0.0 = search rules in
    let e : c.in_err-job.field-0.0 ≡ Read file = cc in
    absurd (no_other c.in_ok-inputs.inputs.names (map use_view c.in_ok-parsed.parsed.uses.items) c.in_err-job.field-0.0 (Read file)
    c.in_err-job.ensures.refused e (λ p. omega (arith, p)) (λ p. omega (arith, p)))

pub returns-in_err-job-clause-no_write : goal.returns-in_err-job-clause-no_write
returns-in_err-job-clause-no_write g c = λ is.
    let same : c.from_residual-in_err-job.result ≡ Err c.in_err-job.field-0.0 = search rules in
    let e : c.in_err-job.field-0.0 ≡ Write = cc in
    no_other c.in_ok-inputs.inputs.names (map use_view c.in_ok-parsed.parsed.uses.items) c.in_err-job.field-0.0 Write
    c.in_err-job.ensures.refused e (λ p. omega (arith, p)) (λ p. omega (arith, p))

pub returns-clause-job : goal.returns-clause-job
returns-clause-job g c = record {
  source = c.in_ok-parsed.ensures.accepted;
  h = c.in_ok-inputs.inputs.hierarchy;
  db = c.in_ok-inputs.inputs.db;
  inputs = c.in_ok-inputs.ensures.inputs;
  distinct = c.in_ok-inputs.ensures.distinct;
  numbered = c.in_ok-inputs.ensures.named;
  uses = map use_view c.in_ok-parsed.parsed.uses.items;
  tree = tree_of c.in_ok-parsed.parsed.tree;
  read = c.in_ok-parsed.ensures.read;
  known = c.in_ok-job.ensures.known;
  job = c.in_ok-job.ensures.job;
}
