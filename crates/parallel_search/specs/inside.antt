pub mod RootResults
