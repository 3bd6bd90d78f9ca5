-- Laws of the definitions that more than one crate cites. Nothing here has to be believed: every statement is proved.

-- the values of a format
pub mod Format
-- the square root: whole roots, the definition in scaled digits, its theorems, bit patterns, examples
pub mod RootSquares
pub mod RootScaled
pub mod RootLaws
pub mod RootBits
pub mod RootExamples
-- numbers that are the same but for a zero's sign, and what operations keep of that
pub mod Same
pub mod Near
pub mod NearSums
-- tests of two parts, tests over whole lists; lists, places in a square and squares by their elements, what grows by one, what passes a test, what loops that add leave, coarse columns, compressed rows, counts
pub mod Tests
pub mod Scans
pub mod Lists
pub mod Places
pub mod Squares
pub mod Growing
pub mod Kept
pub mod Scattering
pub mod CoarseColumns
pub mod Csr
pub mod Counting
-- chains of stages, and the checks of calls on the coarse part
pub mod Outcomes
pub mod CoarseChecks
-- packed factors, and a column of one kept; the factor: what its entries are, for the coarse matrix and for the blocks, that they are finite, and examples
pub mod Packed
pub mod KeptColumn
pub mod Factor
pub mod BlockFactors
pub mod FiniteFactor
pub mod FiniteFactors
pub mod FactorExamples
-- numbers of causes, and those that leave zeros; diagonal sums behind accepted blocks, and the causes that setup never is
pub mod Causes
pub mod Clearing
pub mod Diagonals
pub mod SetupCauses
pub mod SetupClear
-- the groups of setup: new numbers by first appearance, how many ids and groups; the lists of a setup, and the rows of the transfer
pub mod Renumbered
pub mod GroupIds
pub mod SetupLists
pub mod TransferRows
-- the record as numbers and back
pub mod Record
