pub mod Wins
pub mod PrincipalVariation
pub mod Memos
pub mod RootResults
pub mod Laws
pub mod inside
