use Rattle.laws.proofs.KeepsApart.{keeps_apart, keeps_numbers}
use Rattle.laws.proofs.KeepsLevel.{keeps_level}
use Rattle.laws.proofs.KeepsReached.{fewer_reached, lost_reached}
use Rattle.laws.proofs.KeepsFormed.{keeps_formed}
use Rattle.laws.proofs.KeepsChecked.{keeps_root, checked_again}
use Rattle.laws.proofs.what_a_pass_leaves_is_checked_again.Goals as goal

pub returns : goal.returns
returns c = record {
  formed = keeps_formed;
  apart = keeps_apart;
  level = keeps_level;
  numbers = keeps_numbers;
  root = keeps_root;
  again = checked_again;
  fewer = fewer_reached;
  lost = lost_reached;
}
