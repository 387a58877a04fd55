-- `verifier::loading::check_bytes` meets its contract: there is room.
use borrow.Author.Rules.{rules}
use Rattle.verifier.proofs.loading.check_bytes.Goals as goal

pub load_files-loading-requires : goal.load_files-loading-requires
load_files-loading-requires g c = c.requires.areas _ _ (search rules) (search rules)
