pub mod DigitValues
