use Rattle.byte_runs.proofs.RunLemmas.{run_boundary}
use Rattle.byte_runs.proofs.runs.run_of.Goals as goal

pub split_at-requires : goal.split_at-requires
split_at-requires c = rw (c.run_len.ensures, c.as_bytes.ensures.value) (run_boundary c.args.class c.args.text.now c.utf8.text)
