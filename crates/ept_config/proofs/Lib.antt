pub mod FactsTell
