-- the three parts of the law
pub mod Parts
-- the small laws, the table of kinds, the verdicts
pub mod Basics
pub mod Formed
pub mod Verdicts
-- what a removal leaves is accepted again
pub mod KeepsMeasure
pub mod KeepsApart
pub mod KeepsEverywhere
pub mod KeepsLevel
pub mod KeepsReached
pub mod KeepsWays
pub mod KeepsFair
pub mod KeepsTable
pub mod KeepsLists
pub mod KeepsDeclarators
pub mod KeepsFormed
pub mod KeepsChecked
-- the tables of a count, and the rings
pub mod TablesRows
pub mod TablesFilled
pub mod TablesEdges
pub mod TablesTold
pub mod TablesSizes
pub mod TablesRoom
pub mod TablesPass
pub mod RingsDiscount
pub mod RingsClosed
-- lists of calls
pub mod RunsNumbered
pub mod Runs
-- the order of items does not matter
pub mod AlikeTables
pub mod AlikeRings
pub mod AlikeSizes
pub mod UnnumberedCount
pub mod UnnumberedRemoval
pub mod OrderCount
pub mod OrderRemoval
pub mod OrderAsm
pub mod OrderItems
pub mod OrderDeclared
pub mod OrderWords
pub mod OrderTwins
pub mod AlikeRemoval
pub mod AlikeFilling
pub mod AlikeStates
pub mod AlikeRuns
pub mod OrderSample
-- references left to taken names
pub mod RefersExported
pub mod Refers
pub mod RefersUnwrapped
pub mod RefersKept
pub mod RefersCounted
pub mod RefersInside
pub mod Freed
pub mod References
-- completed repeats
pub mod RepeatsUnchanged
pub mod RepeatsUsed
pub mod Repeats
