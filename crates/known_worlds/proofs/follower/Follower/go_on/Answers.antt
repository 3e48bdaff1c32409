use Rattle.std.proofs.Common.{refl, get_or}
use Rattle.known_worlds.specs.declared.moves.Move.TheVariants.{Mark}
use Rattle.known_worlds.proofs.FollowLemmas.{one-made, same-file}
use Rattle.known_worlds.proofs.follower.Follower.go_on.Goals as goal

pub returns-clause-follows : goal.returns-clause-follows
returns-clause-follows c =
    let f = c.args.self.now in
    one-made f.machine.file c.args.path.now f.machine c.make.new.machine f.made f.is_rooted (get_or c.args.path.now f.made Mark) Mark c.requires.follows
    c.requires.whole c.requires.rooted c.requires.inside refl (same-file f.machine c.make.new.machine c.in_ok-make.ensures.aside) c.in_ok-make.ensures.world
    c.in_ok-make.ensures.marked
