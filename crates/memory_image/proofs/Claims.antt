-- The claims of specs/Claims.antt, each under its own name.
-- Assumes: nothing.
use Rattle.memory_image.specs.Claims.{DependsOnList, ListedLies, FaultNotListed, FetchedIsListed, ThenGivesAndLists, ListedFew}
use Rattle.memory_image.proofs.RunLaws.{depends, run_lies, run_fault, run_had, run_then, run_few}

pub depends_on_list : (A : Type 0) → DependsOnList A
depends_on_list A = depends

pub listed_lies : (A : Type 0) → ListedLies A
listed_lies A = run_lies

pub fault_not_listed : (A : Type 0) → FaultNotListed A
fault_not_listed A = run_fault

pub fetched_is_listed : (A : Type 0) → FetchedIsListed A
fetched_is_listed A = run_had

pub then_gives_and_lists : (A B : Type 0) → ThenGivesAndLists A B
then_gives_and_lists A B e limit f next rule =
    (rw (run_then e limit f next rule), rw (run_then e limit f next rule))

pub listed_few : (A : Type 0) → ListedFew A
listed_few A = run_few
