use Rattle.lock_queues.proofs.Keeping.{empty-sound, ask-sound, ask_now-sound, grant-sound, let_go-sound}
use Rattle.lock_queues.proofs.laws.tables_stay_sound.Goals as goal

pub returns : goal.returns
returns c = record { empty = empty-sound; asked = ask-sound; taken = ask_now-sound; granted = grant-sound; gone = let_go-sound }
