-- Faults of blocks are faults in all of them.
use Rattle.std.proofs.Common.{◌≡◌, sym, ap, subst, ◌∙◌, ℕ, ◌<◌, List, ◌++◌, length, map, get_or, take, All, arith}
use Rattle.std.proofs.lemmas.List.{length-map, get_or-map}
use Rattle.std.proofs.lemmas.List.Elements.{All-append, All-take, All-weaker}
use Rattle.binding_model.specs.declared.error.BindError.{BindError}
use Rattle.file_blocks.specs.declared.blocks.SentBlock.{SentBlock}
use Rattle.file_blocks.specs.Blocks.{sent_tree}
use Rattle.spec_findings.specs.Faults.{IsFaultOf, IsFaultIn}

in-blocks : (blocks : List SentBlock) (i : ℕ) (s : SentBlock) → s ≡ get_or blocks i s → i < length blocks → (e : BindError) → IsFaultOf (sent_tree s) e
    → IsFaultIn (map sent_tree blocks) e
in-blocks blocks i s is h e fault =
    let long = length-map blocks sent_tree in
    (i, sent_tree s, omega (arith, h, long), get_or-map sent_tree blocks i s (sent_tree s) h ∙ ap sent_tree (sym is), fault)

-- the faults of one block more
pub faults-with : (blocks : List SentBlock) (i : ℕ) (s : SentBlock) → s ≡ get_or blocks i s → i < length blocks → (all more all' : List BindError)
    → all' ≡ all ++ more → All (IsFaultOf (sent_tree s)) more → All (IsFaultIn (map sent_tree blocks)) all → All (IsFaultIn (map sent_tree blocks)) all'
faults-with blocks i s is h all more all' e faults so_far =
    subst (All (IsFaultIn (map sent_tree blocks))) (sym e)
    (All-append (IsFaultIn (map sent_tree blocks)) all more so_far
    (All-weaker (IsFaultOf (sent_tree s)) (IsFaultIn (map sent_tree blocks)) (in-blocks blocks i s is h) more faults))

-- and the first of them
pub faults-first : (blocks : List SentBlock) (n : ℕ) (all all' : List BindError) → all' ≡ take n all → All (IsFaultIn (map sent_tree blocks)) all
    → All (IsFaultIn (map sent_tree blocks)) all'
faults-first blocks n all all' e faults =
    subst (All (IsFaultIn (map sent_tree blocks))) (sym e) (All-take (IsFaultIn (map sent_tree blocks)) n all faults)
